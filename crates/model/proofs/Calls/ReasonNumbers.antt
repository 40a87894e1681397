-- A reason and its number: each is known by the other, and every number is from 1 to 8.
-- Assumes nothing.
use Rattle.std.specs.Prelude.{Ok, Err}
use mathlib.Core.Path.{◌≡◌, refl, sym, ap, ◌∙◌}
use mathlib.Core.Logic.{◌↔◌}
use mathlib.Core.Bool.{cond}
use Prim.Native.Nat.{ℕ, ◌<◌}
use native.Mathlib.Omega.{arith}
use lib.Dec.{eqb}
use Rattle.model.specs.Numbers.{reason_number, verdict_number}
use Rattle.model.specs.declared.Reason.{Reason}
use Rattle.model.specs.declared.Reason.TheVariants.{Sides, Short, Outside, Unsound, OwnCell, NoRoute, Form}
use Rattle.model.specs.Verdict.{Verdict}
use Rattle.model.proofs.Calls.Acceptance.{not_both}

-- a reason is known by its number
unfoldable reason_of : ℕ → Reason
reason_of n =
    cond (eqb n 1) Sides
    (cond (eqb n 2) Short
    (cond (eqb n 3) Outside
    (cond (eqb n 4) Unsound
    (cond (eqb n 5) OwnCell
    (cond (eqb n 6) NoRoute Form)))))

by_number : (why : Reason) → reason_of (reason_number why) ≡ why
unfolding reason_of
by_number Sides = refl
by_number Short = refl
by_number Outside = refl
by_number Unsound = refl
by_number OwnCell = refl
by_number NoRoute = refl
by_number Form = refl

pub some_number : (why : Reason) → 0 < reason_number why
some_number Sides = omega arith
some_number Short = omega arith
some_number Outside = omega arith
some_number Unsound = omega arith
some_number OwnCell = omega arith
some_number NoRoute = omega arith
some_number Form = omega arith

pub number_small : (why : Reason) → reason_number why < 9
number_small Sides = omega arith
number_small Short = omega arith
number_small Outside = omega arith
number_small Unsound = omega arith
number_small OwnCell = omega arith
number_small NoRoute = omega arith
number_small Form = omega arith

pub refused_number : (v : Verdict) (why : Reason) → (verdict_number v ≡ reason_number why) ↔ (v ≡ Err why)
refused_number (Ok _) why = (λ e. absurd (omega (arith, some_number why)), λ e. absurd (not_both e refl))
refused_number (Err other) why = (λ e. ap Err (sym (by_number other) ∙ ap reason_of e ∙ by_number why), λ e. ap verdict_number e)
