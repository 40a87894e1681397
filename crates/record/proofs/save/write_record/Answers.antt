-- `record::save::write_record` meets its contract: each field is written into the part behind the one before it (`SaveCases`). Assumes nothing.
use Rattle.record.proofs.save.SaveCases.{record_done, save_few, save_room, save_links, save_learneds}
use Rattle.record.proofs.save.LearnedFront.{learned_front}
use Prim.Native.Nat.{◌*◌}
use mathlib.Core.Path.{sym}
use lib.Seq.{length-take-le}
use lib.ListN.{length-take, length-drop}
use native.Mathlib.Omega.{arith}
use Rattle.record.proofs.save.write_record.Goals as goal

pub put_learned-requires : goal.put_learned-requires
put_learned-requires c =
    rw (length-take-le (c.args.head.width * c.args.head.height) c.args.learned.now (save_learneds _ _ _ c.requires))
    (omega (arith, save_few _ _ _ c.requires), simp (length-take, length-drop) (omega (arith, save_room _ _ _ c.requires, c.learned_at-at_learned.ensures)))

pub slice_bounds-put_learned-end-2 : goal.slice_bounds-put_learned-end-2
slice_bounds-put_learned-end-2 c = sym (length-take-le (c.args.head.width * c.args.head.height) c.args.learned.now (save_learneds _ _ _ c.requires))

pub put_field-requires : goal.put_field-requires
put_field-requires c =
    rw (length-take-le (c.args.head.width * c.args.head.height) c.args.link.now (save_links _ _ _ c.requires))
    (omega (arith, save_few _ _ _ c.requires), simp (length-take, length-drop) (omega (arith, save_room _ _ _ c.requires, c.link_at-at_link.ensures)))

pub slice_bounds-put_field-end-2 : goal.slice_bounds-put_field-end-2
slice_bounds-put_field-end-2 c = sym (length-take-le (c.args.head.width * c.args.head.height) c.args.link.now (save_links _ _ _ c.requires))

pub returns : goal.returns
returns c =
    record_done _ _ c.args.buffer.now _ _ _ _ _ _ c.learned_at-at_learned.ensures
    c.link_at-at_link.ensures c.put_head.ensures
    c.put_ground.ensures (learned_front (c.args.head.width * c.args.head.height) c.args.learned.now _ (save_learneds _ _ _ c.requires) c.put_learned.ensures)
    c.put_field.ensures
