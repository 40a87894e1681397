-- `calls::report::cut_at` meets its contract: two ways through, each a case of `cut_at` (`CutLinks`). Assumes nothing.
use mathlib.Core.Path.{sym}
use Rattle.calls.proofs.report.CutLinks.{cut_other, cut_one}
use Rattle.calls.proofs.report.cut_at.Goals as goal

pub returns-then-link-y : goal.returns-then-link-y
returns-then-link-y c n on = sym (cut_one n _ _ _ on c.if-link-y.true)

pub returns-else-link-y : goal.returns-else-link-y
returns-else-link-y c n on = sym (cut_other n _ _ _ on c.if-link-y.false)
