-- `salenduro::controller::advance` meets its contract: refused by load, for want of a route, or rewritten. Assumes nothing.
use Rattle.std.proofs.Common.{rules, ◌≡◌, Err}
use native.Mathlib.Omega.{arith}
use mathlib.Core.Path.{refl}
use Rattle.salenduro.proofs.controller.MoveOverRecord.{move_may, move_undone, move_writes, moved_cells, move_done}
use Rattle.salenduro.proofs.controller.RecordRead.{unread, was_read}
use Rattle.salenduro.proofs.controller.RecordRewritten.{record_unread}
use Rattle.model.specs.Controller.{moved_c}
use Rattle.salenduro.proofs.controller.advance.Goals as goal

pub returns-in_err-given : goal.returns-in_err-given
unfolding moved_c
returns-in_err-given c =
    let same : c.from_residual.result ≡ Err c.in_err-given.field-0.0 = search rules in
    rw same (record_unread _ _ _ _ _ refl (unread _ c.unpack.ensures c.in_err-given.was))

pub onward-moved-requires : goal.onward-moved-requires
onward-moved-requires c = move_may _ (was_read _ c.unpack.ensures c.in_ok-given.was)

pub returns-in_err-verdict : goal.returns-in_err-verdict
returns-in_err-verdict c =
    let same : c.from_residual-in_err-verdict.result ≡ Err c.in_err-verdict.field-0.0 = search rules in
    rw same (move_undone _ (was_read _ c.unpack.ensures c.in_ok-given.was) c.onward-moved.ensures refl c.verdict.ensures c.in_err-verdict.was)

pub write_record-requires : goal.write_record-requires
write_record-requires c = move_writes _ (was_read _ c.unpack.ensures c.in_ok-given.was) c.onward-moved.ensures

pub overflow_cast-result : goal.overflow_cast-result
overflow_cast-result c =
    let k = moved_cells _ (was_read _ c.unpack.ensures c.in_ok-given.was) c.onward-moved.ensures in omega (arith, k.0, k.1, k.2)

pub returns : goal.returns
returns c =
    move_done _ (was_read _ c.unpack.ensures c.in_ok-given.was) c.onward-moved.ensures c.verdict.ensures c.in_ok-verdict.was
    c.write_record.ensures refl
