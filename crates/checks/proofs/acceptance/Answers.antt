-- `checks::acceptance` meets its contract: a buffer and a cell that are asked twice ask nothing new. Assumes nothing.
use mathlib.Core.Path.{◌∙◌}
use Rattle.checks.proofs.SharedTests.{accepts_by}
use Rattle.checks.proofs.acceptance.Goals as goal

pub returns : goal.returns
returns c = c.check_with.ensures ∙ accepts_by _ _
