-- `checks::plan_check` meets its contract: the least length of scratch serves its three buffers. Assumes nothing.
use native.Mathlib.Omega.{arith}
use Rattle.checks.proofs.SharedTests.{plan_by}
use Rattle.checks.proofs.plan_check.Goals as goal

pub returns : goal.returns
returns c = plan_by _ _ _ c.check_with.ensures (omega (arith, c.min.ensures, c.min-spare.ensures))
