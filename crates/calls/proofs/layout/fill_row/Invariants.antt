-- `calls::layout::fill_row` meets its contract: before each iteration the first `k` columns have their distances (`RowDistances`). Assumes nothing.
use Rattle.calls.proofs.layout.RowDistances.{RowFilled}
use Rattle.calls.proofs.layout.fill_row.Given as goal

abbrev pub invariant-loop-k : goal.invariant-loop-k
invariant-loop-k l = RowFilled l.first l.rows l.col l.k l.initial.learned l.learned
