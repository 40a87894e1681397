-- `salenduro::controller::plan` meets its contract: refused by load, or rewritten. Assumes nothing.
use Rattle.std.proofs.Common.{rules, ◌≡◌, Err}
use native.Mathlib.Omega.{arith}
use mathlib.Core.Path.{refl}
use Rattle.salenduro.proofs.controller.PlanOverRecord.{plan_passed, plan_writes, plan_small, plan_done}
use Rattle.salenduro.proofs.controller.RecordRead.{unread, was_read}
use Rattle.salenduro.proofs.controller.RecordRewritten.{record_unread}
use Rattle.model.specs.Controller.{planned_c}
use Rattle.salenduro.proofs.controller.plan.Goals as goal

pub returns-in_err-head : goal.returns-in_err-head
unfolding planned_c
returns-in_err-head c =
    let same : c.from_residual.result ≡ Err c.in_err-head.field-0.0 = search rules in
    rw same (record_unread _ _ _ _ _ refl (unread _ c.unpack.ensures c.in_err-head.was))

pub replan-planned-requires : goal.replan-planned-requires
replan-planned-requires c = plan_passed _ (was_read _ c.unpack.ensures c.in_ok-head.was)

pub write_record-requires : goal.write_record-requires
write_record-requires c = plan_writes _ (was_read _ c.unpack.ensures c.in_ok-head.was) c.replan-planned.ensures

pub plan_answer-requires : goal.plan_answer-requires
plan_answer-requires c = omega (arith, plan_small _ (was_read _ c.unpack.ensures c.in_ok-head.was) c.replan-planned.ensures)

pub returns : goal.returns
returns c =
    plan_done _ (was_read _ c.unpack.ensures c.in_ok-head.was) c.replan-planned.ensures c.write_record.ensures c.plan_answer.ensures
