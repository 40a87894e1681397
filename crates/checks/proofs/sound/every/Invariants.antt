-- `checks::sound::every` meets its contract: the flag is the test over the numbers passed. Assumes nothing.
use Prim.Native.Nat.{ℕ}
use mathlib.Core.Bool.{Bool}
use mathlib.Core.Path.{◌≡◌}
use Rattle.model.specs.Lists.{every}
use Rattle.checks.specs.Passes.{AgreesBelow}
use Rattle.checks.proofs.sound.every.Given as goal

abbrev pub invariant-loop-i : goal.invariant-loop-i
invariant-loop-i g l = (t : ℕ → Bool) → AgreesBelow l.n (goal.F-post g l.test) t → l.ok ≡ every l.i t
