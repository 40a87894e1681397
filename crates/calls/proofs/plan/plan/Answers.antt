-- `calls::plan::plan` meets its contract: refused, or what its core does. Assumes nothing.
use Rattle.calls.proofs.RefusedCases.{plan_refused}
use Rattle.calls.proofs.plan.plan.Goals as goal

pub returns-in-Err : goal.returns-in-Err
returns-in-Err c = plan_refused c.in-Err.is _ _ _ c.plan_check.ensures
