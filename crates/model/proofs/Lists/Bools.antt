-- Tests joined by and, or and not.
-- Assumes nothing.
use Prim.Native.Nat.{ℕ}
use mathlib.Core.Path.{◌≡◌, refl, sym, ap, ◌∙◌}
use mathlib.Core.Logic.{◌≢◌}
use mathlib.Core.Bool.{Bool, true, false, not, ◌&&◌, ◌||◌, false≢true}
use borrow.Author.Tests.{eq-eqb, ltb-true, ltb-false, le-leb, lt-leb}
use lib.Dec.{leb, ltb, eqb}

pub and_left : (a b : Bool) → (a && b) ≡ true → a ≡ true
and_left true b e = refl
and_left false b e = absurd (false≢true e)

pub and_right : (a b : Bool) → (a && b) ≡ true → b ≡ true
and_right true b e = e
and_right false b e = absurd (false≢true e)

pub and_both : (a b : Bool) → a ≡ true → b ≡ true → (a && b) ≡ true
and_both a b e f = rw (e, f)

pub or_false : (a b : Bool) → (a || b) ≡ false → (a ≡ false) × (b ≡ false)
or_false true b e = absurd (false≢true (sym e))
or_false false b e = (refl, e)

pub or_right : (a b : Bool) → (a || b) ≡ true → a ≡ false → b ≡ true
or_right true b e f = absurd (false≢true (sym f))
or_right false b e f = e

pub make_or : (a b : Bool) → (a ≡ false → b ≡ true) → (a || b) ≡ true
make_or true b f = refl
make_or false b f = f refl

-- an implication of tests
pub use_test : (a b : Bool) → (not a || b) ≡ true → a ≡ true → b ≡ true
use_test true b e f = e
use_test false b e f = absurd (false≢true f)

pub make_test : (a b : Bool) → (a ≡ true → b ≡ true) → (not a || b) ≡ true
make_test true b f = f refl
make_test false b f = refl

-- what true and false leave of and, or
pub or_true : (a : Bool) → (a || true) ≡ true
or_true true = refl
or_true false = refl

pub and_false : (a : Bool) → (a && false) ≡ false
and_false true = refl
and_false false = refl

pub and_assoc : (a b c : Bool) → (a && (b && c)) ≡ ((a && b) && c)
and_assoc true b c = refl
and_assoc false b c = refl

-- tests of numbers that are denied
pub not_eqb : (a b : ℕ) → not (eqb a b) ≡ true → a ≢ b
not_eqb a b e q = false≢true (sym (ap not (eq-eqb a b q)) ∙ e)

pub not_leb : (n c : ℕ) → not (leb n c) ≡ ltb c n
not_leb n c = go (ltb c n) refl
  where
    go : (b : Bool) → ltb c n ≡ b → not (leb n c) ≡ b
    go true e = rw (lt-leb n c (ltb-true c n e)) refl
    go false e = rw (le-leb n c (ltb-false c n e)) refl
