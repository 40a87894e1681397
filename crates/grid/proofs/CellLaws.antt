-- What is known of a cell of a plot where there is one, and where there is none.
-- Assumes nothing.
use mathlib.Core.Path.{◌≡◌, refl}
use mathlib.Core.Bool.{Bool, true, false, cond}
use Prim.Native.Nat.{ℕ, ◌≤◌, ◌<◌}
use native.Mathlib.Omega.{arith}
use borrow.Author.Tests.{lt-ltb, le-ltb, ltb-true, ltb-false}
use Rattle.std.specs.Prelude.{Some, None}
use lib.Dec.{ltb}
use Rattle.grid.specs.CellOn.{cell_on}

-- y is x, and one of the first n cells
pub record On (n x y : ℕ) : Type 0 where
  pub same : y ≡ x
  pub inside : y < n

pub on_plot : (n x : ℕ) → x < n → Some x ≡ cell_on n x
unfolding cell_on
on_plot n x i = rw (lt-ltb x n i)

pub off_plot : (n x : ℕ) → n ≤ x → None ≡ cell_on n x
unfolding cell_on
off_plot n x l = rw (le-ltb x n l)

pub some_on : {n x y : ℕ} → Some y ≡ cell_on n x → On n x y
unfolding cell_on
some_on {n} {x} {y} e = go _ refl e
  where
    go : (b : Bool) → ltb x n ≡ b → Some y ≡ cond b (Some x) None → On n x y
    go true f q = let s : y ≡ x = cc in record { same = s; inside = omega (arith, ltb-true x n f) }
    go false f q = absurd (cc)

pub none_off : {n x : ℕ} → None ≡ cell_on n x → n ≤ x
unfolding cell_on
none_off {n} {x} e = go _ refl e
  where
    go : (b : Bool) → ltb x n ≡ b → None ≡ cond b (Some x) None → n ≤ x
    go true f q = absurd (cc)
    go false f q = ltb-false x n f
