-- `calls::layout::layout` meets its contract: refused, or what its core does. Assumes nothing.
use Rattle.calls.proofs.RefusedCases.{layout_refused}
use Rattle.calls.proofs.layout.layout.Goals as goal

pub returns-in-Err : goal.returns-in-Err
returns-in-Err c =
    rw c.none.ensures (layout_refused c.in-Err.is _ _ _ _ _ c.layout_check.ensures)
