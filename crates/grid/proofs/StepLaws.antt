-- Where a step on the plot leads, by direction.
-- Assumes nothing.
use mathlib.Core.Path.{◌≡◌}
use mathlib.Core.Logic.{◌≢◌}
use Prim.Native.Nat.{ℕ, ◌+◌, ◌≤◌, ◌<◌}
use native.Mathlib.Decide.{dec_lt}
use native.Mathlib.Nat.{mul-mod_right}
use native.Mathlib.Omega.{arith}
use borrow.Author.Tests.{ne_eqb, le-ltb, lt-leb}
use Rattle.std.specs.Prelude.{Some, None}
use Rattle.model.specs.Plot.{cells, column, ahead}
use Rattle.model.proofs.Grid.Geometry.{Stepped, stepped_ahead, column_right}
use Rattle.model.proofs.Grid.Geometry.Stepped.{right, down, left, up}
use Rattle.grid.specs.declared.plot.Plot.{Plot}
use Rattle.grid.specs.CellOn.{cell_on}
use Rattle.grid.proofs.CellLaws.{on_plot, off_plot}

-- the cell to the right is on the plot, since the last cell stands in the last column
right_inside : (w h c : ℕ) → c < cells w h → column w c + 1 < w → c + 1 < cells w h
right_inside w h c i l = go (dec_lt (c + 1) (cells w h))
  where
    go : Dec (c + 1 < cells w h) → c + 1 < cells w h
    go (yes b) = b
    go (no o) =
        let e : c + 1 ≡ cells w h = omega arith in
        let z : column w (c + 1) ≡ 0 = rw e (mul-mod_right w h) in
        absurd (omega (arith, column_right w c l, z))

stepped_inside : {w h c d y : ℕ} → c < cells w h → Stepped w h c d y → y < cells w h
stepped_inside {w} {h} {c} i (right l) = right_inside w h c i l
stepped_inside i (down l) = l
stepped_inside i (left l) = omega arith
stepped_inside i (up l) = omega arith

module _ (p : Plot) (c : ℕ) where
  pub step_on : {d y : ℕ} → c < p.cells → Stepped p.width p.height c d y → Some y ≡ cell_on p.cells (ahead p.width p.height c d)
  step_on i s = rw (stepped_ahead s) (on_plot p.cells _ (omega (arith, p.product, stepped_inside (omega (arith, p.product)) s)))

  -- the plot ends in direction d
  step_off : (d : ℕ) → ahead p.width p.height c d ≡ cells p.width p.height → None ≡ cell_on p.cells (ahead p.width p.height c d)
  step_off d q = off_plot p.cells _ (omega (arith, p.product, q))

  pub none_right : p.width ≤ column p.width c + 1 → None ≡ cell_on p.cells (ahead p.width p.height c 1)
  unfolding ahead
  none_right l = step_off 1 (rw (le-ltb (column p.width c + 1) p.width l))

  pub none_down : cells p.width p.height ≤ c + p.width → None ≡ cell_on p.cells (ahead p.width p.height c 2)
  unfolding ahead
  none_down l = step_off 2 (rw (le-ltb (c + p.width) (cells p.width p.height) l))

  pub none_left : column p.width c ≤ 0 → None ≡ cell_on p.cells (ahead p.width p.height c 3)
  unfolding ahead
  none_left l = step_off 3 (rw (le-ltb 0 (column p.width c) l))

  pub none_up : c < p.width → None ≡ cell_on p.cells (ahead p.width p.height c 4)
  unfolding ahead
  none_up l = step_off 4 (rw (lt-leb p.width c l))

  -- other numbers are no directions
  pub none_other : (d : ℕ) → d ≢ 1 → d ≢ 2 → d ≢ 3 → d ≢ 4 → None ≡ cell_on p.cells (ahead p.width p.height c d)
  unfolding ahead
  none_other d a b f g = step_off d (rw (ne_eqb d 1 a, ne_eqb d 2 b, ne_eqb d 3 f, ne_eqb d 4 g))
