-- `grid::plot::Plot::new` meets its contract: good sides have few cells. Assumes nothing.
use Rattle.model.proofs.Calls.Acceptance.{cells_few, row_within, side_wide}
use native.Mathlib.Omega.{arith}
use mathlib.Core.Path.{refl}
use Rattle.grid.proofs.plot.Plot.new.Goals as goal

pub overflow_mul-result : goal.overflow_mul-result
overflow_mul-result c = omega (arith, cells_few _ _ c.requires)

pub invariant_of-result : goal.invariant_of-result
invariant_of-result c = record {
  product = refl;
  few = omega (arith, cells_few _ _ c.requires);
  row = row_within _ _ c.requires;
  wide = side_wide _ _ c.requires;
}
