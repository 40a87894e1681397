-- `checks::report_check` meets its contract: at each return the shared verdict and the own cell decide. Assumes nothing.
use Rattle.std.proofs.Common.{rules, Err}
use mathlib.Core.Path.{◌≡◌, sym, ◌∙◌}
use borrow.Author.Tests.{eq-eqb, ne_eqb}
use Rattle.model.specs.Report.{report_check}
use Rattle.checks.proofs.SharedTests.{report_by}
use Rattle.checks.proofs.report_check.Goals as goal

pub returns-in_err-check_with : goal.returns-in_err-check_with
unfolding report_check
returns-in_err-check_with c =
    let same : c.from_residual.result ≡ Err c.in_err-check_with.field-0.0 = search rules in
    rw same (simp (sym (c.check_with.ensures ∙ report_by _ _ _) ∙ c.in_err-check_with.was))

pub returns-then-c-head : goal.returns-then-c-head
unfolding report_check
returns-then-c-head c = simp (sym (c.check_with.ensures ∙ report_by _ _ _) ∙ c.in_ok-check_with.was, eq-eqb _ _ c.if-c-head.true)

pub returns : goal.returns
unfolding report_check
returns c = simp (sym (c.check_with.ensures ∙ report_by _ _ _) ∙ c.in_ok-check_with.was, ne_eqb _ _ c.if-c-head.false)
