-- `drive::tell` meets its contract: before each turn the drive is under way, and there is room (`DriveLoop`). Assumes nothing.
use Rattle.std.proofs.Common.{ℕ, length, arith, refl, ap, ◌∙◌}
use lib.ListN.{length-replicate}
use Rattle.model.specs.Plot.{max_cells}
use Rattle.queue.specs.Queue.{heap_room}
use Rattle.search.proofs.WorkspaceRoom.{room_long}
use Rattle.printing.proofs.lines.LineShort.{line_kept}
use Rattle.turn.proofs.DriveUnderWay.{going_first, going_planable, going_room}
use Rattle.drive.proofs.DriveLoop.{waiting_room, going_again, less_to_say, same_here, same_still}
use Rattle.drive.proofs.tell.Goals as goal

pub loop-init : goal.loop-init
loop-init g c =
    let first = going_first _ _ _ _ c.requires.accepted c.requires.moves in record {
      same = same_here _;
      under_way = first;
      room = going_room _ _ _ _ first (room_long (length-replicate {A = ℕ} (heap_room max_cells) 0) (length-replicate {A = ℕ} max_cells 0)
          (length-replicate {A = ℕ} max_cells 0) (length-replicate {A = ℕ} max_cells 0));
      long = length-replicate {A = ℕ} waiting_room 0;
      waits = omega arith;
    }

pub turn-line-requires-clause-planable : goal.turn-line-requires-clause-planable
turn-line-requires-clause-planable g c = going_planable _ _ _ _ c.loop.invariant.under_way c.loop.invariant.room

pub loop-smaller : goal.loop-smaller
loop-smaller g c =
    let said = less_to_say c.loop.invariant.under_way c.turn-line.ensures.line c.is_last.ensures refl in rw c.if-is_last.false at said

pub loop-preserved : goal.loop-preserved
loop-preserved g c =
    let before = c.loop.invariant in
    let long = ap length c.flush.ensures.bytes ∙ line_kept _ c.put_line.ensures.text (omega (arith, before.long, before.waits)) ∙ before.long in record {
      same = same_still before.same c.turn-line.ensures.same.0;
      under_way = going_again before.under_way c.turn-line.ensures.line c.is_last.ensures c.if-is_last.false;
      room = c.turn-line.ensures.room;
      long = long;
      waits = omega (arith, long, c.in_ok-flush.ensures.room);
    }
