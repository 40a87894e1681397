-- `calls::layout::fill_row` meets its contract: before each iteration the first `k` columns have their distances (`RowDistances`). Assumes nothing.
use Rattle.calls.proofs.layout.RowDistances.{row_begin, row_next}
use Rattle.calls.proofs.layout.fill_row.Goals as goal

pub loop-k-init : goal.loop-k-init
loop-k-init c = row_begin _ _ _ _

pub loop-k-preserved : goal.loop-k-preserved
loop-k-preserved c = row_next _ c.loop-k.invariant c.abs_diff.ensures
