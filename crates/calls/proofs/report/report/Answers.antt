-- `calls::report::report` meets its contract: refused, or what its core does. Assumes nothing.
use Rattle.calls.proofs.RefusedCases.{report_refused}
use Rattle.calls.proofs.report.report.Goals as goal

pub returns-in-Err : goal.returns-in-Err
returns-in-Err c = report_refused c.in-Err.is _ _ _ c.report_check.ensures
