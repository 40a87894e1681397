-- `record::load::load_answer` meets its contract: at each return the tests that led there decide the answer. Assumes nothing.
use Rattle.std.proofs.Common.{rules, Err}
use mathlib.Core.Path.{◌≡◌, ◌∙◌}
use native.Mathlib.Omega.{arith}
use Rattle.model.specs.Plot.{max_cells}
use Rattle.model.specs.Record.{room_for}
use Rattle.model.proofs.Record.RecordLaws.{room_for_law}
use Rattle.record.proofs.load.LoadCases.{opened, room_in, answer_unopened, answer_short, answer_unsound, answer_sound}
use Rattle.record.proofs.load.load_answer.Goals as goal

pub returns-in_err-opened : goal.returns-in_err-opened
returns-in_err-opened c =
    let same : c.from_residual.result ≡ Err c.in_err-opened.field-0.0 = search rules in
    same ∙ answer_unopened _ c.open_record.ensures _ c.in_err-opened.was

pub overflow_mul-opened : goal.overflow_mul-opened
overflow_mul-opened c = omega (arith, (opened _ c.open_record.ensures c.in_ok-opened.was).placed.few)

pub returns-then-room-opened : goal.returns-then-room-opened
returns-then-room-opened c =
    answer_short _ c.open_record.ensures c.in_ok-opened.was _ (omega (arith, c.min.ensures, c.min-room.ensures)) c.if-room-opened.true

pub holds_sound-requires : goal.holds_sound-requires
holds_sound-requires c = opened _ c.open_record.ensures c.in_ok-opened.was

pub returns-then-holds_sound : goal.returns-then-holds_sound
returns-then-holds_sound c =
    answer_sound _ c.open_record.ensures c.in_ok-opened.was _ (room_for max_cells)
    (room_in c.if-room-opened.false (omega (arith, c.min.ensures, c.min-room.ensures)))
    (room_for_law _ _ (opened _ c.open_record.ensures c.in_ok-opened.was).placed.few) c.holds_sound.ensures c.if-holds_sound.true

pub returns-else-holds_sound : goal.returns-else-holds_sound
returns-else-holds_sound c =
    answer_unsound _ c.open_record.ensures c.in_ok-opened.was _ (room_for max_cells)
    (room_in c.if-room-opened.false (omega (arith, c.min.ensures, c.min-room.ensures)))
    (room_for_law _ _ (opened _ c.open_record.ensures c.in_ok-opened.was).placed.few) c.holds_sound.ensures c.if-holds_sound.false
