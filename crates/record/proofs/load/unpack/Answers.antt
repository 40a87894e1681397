-- `record::load::unpack` meets its contract: load's answer, and its state where it is accepted. Assumes nothing.
use Rattle.std.proofs.Common.{rules, Err}
use mathlib.Core.Path.{◌≡◌, refl}
use native.Mathlib.Omega.{arith}
use Rattle.record.proofs.load.LoadCases.{room_here, opened, answer_unopened, answer_unsound, answer_sound, unpacked, unpacked_refused}
use Rattle.record.proofs.load.unpack.Goals as goal

pub returns-in_err-opened : goal.returns-in_err-opened
returns-in_err-opened c =
    let same : c.from_residual.result ≡ Err c.in_err-opened.field-0.0 = search rules in
    rw same (unpacked_refused _ _ (answer_unopened _ c.open_record.ensures _ c.in_err-opened.was) refl)

pub read_sound-requires : goal.read_sound-requires
read_sound-requires c =
    let o = opened _ c.open_record.ensures c.in_ok-opened.was in
    let r = room_here o c.requires in
    (o, record { grounds = omega (arith, r.grounds, r.links); learneds = r.learneds; links = omega (arith, r.grounds, r.links) })

pub returns-then-read_sound : goal.returns-then-read_sound
returns-then-read_sound c =
    let room = room_here (opened _ c.open_record.ensures c.in_ok-opened.was) c.requires in
    let read = c.read_sound.ensures in
    unpacked _ _ (answer_sound _ c.open_record.ensures c.in_ok-opened.was _ _ room room read.tells c.if-read_sound.true) refl read.reads

pub returns-else-read_sound : goal.returns-else-read_sound
returns-else-read_sound c =
    let room = room_here (opened _ c.open_record.ensures c.in_ok-opened.was) c.requires in
    let read = c.read_sound.ensures in
    unpacked_refused _ _ (answer_unsound _ c.open_record.ensures c.in_ok-opened.was _ _ room room read.tells c.if-read_sound.false) refl
