-- `calls::layout::fill_rows` meets its contract: before each iteration the first `row` rows have their distances (`RowDistances`). Assumes nothing.
use Rattle.calls.proofs.layout.RowDistances.{rows_begin, rows_next}
use Rattle.calls.proofs.layout.fill_rows.Goals as goal

pub loop-row-init : goal.loop-row-init
loop-row-init c = rows_begin _ _ _

pub loop-row-preserved : goal.loop-row-preserved
loop-row-preserved c = rows_next _ _ c.loop-row.invariant c.abs_diff.ensures c.fill_row.ensures
