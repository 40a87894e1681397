-- `salenduro::controller::report` meets its contract: refused by load, by its own tests, or rewritten. Assumes nothing.
use Rattle.std.proofs.Common.{rules, ◌≡◌, Err}
use mathlib.Core.Path.{refl}
use Rattle.salenduro.proofs.controller.ReportOverRecord.{report_undone, report_may, report_writes, report_done}
use Rattle.salenduro.proofs.controller.RecordRead.{unread, was_read}
use Rattle.salenduro.proofs.controller.RecordRewritten.{record_unread}
use Rattle.model.specs.Controller.{reported_c}
use Rattle.salenduro.proofs.controller.report.Goals as goal

pub returns-in_err-head : goal.returns-in_err-head
unfolding reported_c
returns-in_err-head c =
    let same : c.from_residual.result ≡ Err c.in_err-head.field-0.0 = search rules in
    rw same (record_unread _ _ _ _ _ refl (unread _ c.unpack.ensures c.in_err-head.was))

pub report_rest-requires : goal.report_rest-requires
report_rest-requires c = (was_read _ c.unpack.ensures c.in_ok-head.was).held.placed.few

pub returns-in_err-report_rest : goal.returns-in_err-report_rest
returns-in_err-report_rest c =
    let same : c.from_residual-in_err-report_rest.result ≡ Err c.in_err-report_rest.field-0.0 = search rules in
    rw same (report_undone _ _ (was_read _ c.unpack.ensures c.in_ok-head.was) c.report_rest.ensures refl c.in_err-report_rest.was)

pub block-requires : goal.block-requires
block-requires c = report_may _ _ (was_read _ c.unpack.ensures c.in_ok-head.was) c.report_rest.ensures c.in_ok-report_rest.was

pub write_record-requires : goal.write_record-requires
write_record-requires c = report_writes _ _ (was_read _ c.unpack.ensures c.in_ok-head.was) c.block.ensures

pub returns : goal.returns
returns c =
    let read = was_read _ c.unpack.ensures c.in_ok-head.was in
    report_done _ _ read c.block.ensures (report_may _ _ read c.report_rest.ensures c.in_ok-report_rest.was) c.write_record.ensures
