-- `calls::list::list_question` meets its contract: each verdict has its number (`ListCounts`). Assumes nothing.
use Rattle.calls.proofs.list.ListCounts.{number_none, number_why}
use Rattle.calls.proofs.list.list_question.Goals as goal

pub returns-in-Ok : goal.returns-in-Ok
returns-in-Ok c = number_none _ _ _ c.list_check.ensures c.in-Ok.is

pub returns-in-Err : goal.returns-in-Err
returns-in-Err c = number_why _ _ _ _ c.list_check.ensures c.in-Err.is c.number.ensures
