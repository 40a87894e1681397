-- `calls::advance::advance` meets its contract: refused, or what its core does. Assumes nothing.
use Rattle.calls.proofs.RefusedCases.{move_refused}
use Rattle.calls.proofs.advance.advance.Goals as goal

pub returns-in-Err : goal.returns-in-Err
returns-in-Err c = move_refused c.in-Err.is _ _ c.acceptance.ensures
