-- A scan `ok = ok & test`: its start, an iteration and its end; and small laws of tests.
-- Assumes nothing.
use mathlib.Core.Path.{◌≡◌, refl, sym, ap}
use mathlib.Core.Bool.{Bool, true, false, ◌&&◌}
use Prim.Native.Nat.{ℕ, ◌+◌, ◌-◌, ◌≤◌, ◌<◌}
use native.Mathlib.Nat.{le_antisymm}
use native.Mathlib.Numerals.{add-one}
use native.Mathlib.Omega.{arith}
use lib.Dec.{leb}
use Rattle.model.specs.Lists.{every}
use Rattle.model.specs.Plot.{gap}

module _ (test : ℕ → Bool) where
  pub every_none : true ≡ every 0 test
  unfolding every
  every_none = refl

  pub every_more : (ok b : Bool) (i : ℕ) → ok ≡ every i test → b ≡ test i → (ok && b) ≡ every (i + 1) test
  unfolding every
  every_more ok b i e h = rw (add-one, e, h)

  pub every_done : (ok : Bool) (i n : ℕ) → ok ≡ every i test → i ≤ n → n ≤ i → ok ≡ every n test
  every_done ok i n e l m = rw (le_antisymm l m) at e

-- two tests that imply each other are the same
pub same_test : (a b : Bool) → (a ≡ true → b ≡ true) → (b ≡ true → a ≡ true) → a ≡ b
same_test true b f g = sym (f refl)
same_test false true f g = g refl
same_test false false f g = refl

-- the gap of two numbers is the difference that is not cut
pub gap_above : (a b : ℕ) → b < a → leb (a - b) 1 ≡ leb (gap a b) 1
gap_above a b l = let e : a - b ≡ gap a b = omega arith in ap (λ x. leb x 1) e

pub gap_below : (a b : ℕ) → a ≤ b → leb (b - a) 1 ≡ leb (gap a b) 1
gap_below a b l = let e : b - a ≡ gap a b = omega arith in ap (λ x. leb x 1) e
