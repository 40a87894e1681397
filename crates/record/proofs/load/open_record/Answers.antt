-- `record::load::open_record` meets its contract: at each return the tests that led there decide the answer. Assumes nothing.
use Rattle.std.proofs.Common.{rules, Err}
use mathlib.Core.Path.{◌≡◌, ◌∙◌}
use native.Mathlib.Omega.{arith}
use Rattle.record.proofs.form.FormCases.{form_formed}
use Rattle.record.proofs.load.LoadCases.{open_unformed, open_outside, open_inside}
use Rattle.record.proofs.load.open_record.Goals as goal

pub returns-in_err-form_check : goal.returns-in_err-form_check
returns-in_err-form_check c =
    let same : c.from_residual.result ≡ Err c.in_err-form_check.field-0.0 = search rules in
    same ∙ open_unformed _ (λ i. omega (arith, c.type_inv.bytes i)) c.form_check.ensures c.in_err-form_check.was

pub head_of-head-requires : goal.head_of-head-requires
head_of-head-requires c = omega (arith, (form_formed _ c.form_check.ensures c.in_ok-form_check.was).long)

pub returns-then-n-max : goal.returns-then-n-max
returns-then-n-max c =
    open_outside _ (λ i. omega (arith, c.type_inv.bytes i)) c.form_check.ensures c.in_ok-form_check.was c.head_of-head.ensures
    c.max.ensures c.if-n-max.true

pub returns : goal.returns
returns c =
    open_inside _ (λ i. omega (arith, c.type_inv.bytes i)) c.form_check.ensures c.in_ok-form_check.was c.head_of-head.ensures
    c.max.ensures c.if-n-max.false
