-- `calls::layout::fill_rows` meets its contract: before each iteration the first `row` rows have their distances (`RowDistances`). Assumes nothing.
use Rattle.calls.proofs.layout.RowDistances.{RowsFilled}
use Rattle.calls.proofs.layout.fill_rows.Given as goal

abbrev pub invariant-loop-row : goal.invariant-loop-row
invariant-loop-row l = RowsFilled l.plot.width l.goal l.row l.initial.learned l.learned
