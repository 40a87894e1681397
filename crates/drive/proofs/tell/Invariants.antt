-- Before each turn the drive is under way, and there is room to plan and to write a line. What is left to say falls: there is more of it as
-- long as the drive goes on, and it goes on at the head of the loop.
use Rattle.std.proofs.Common.{◌≡◌, ◌+◌, ◌≤◌, length, true}
use Rattle.model.specs.Head.{cells_of}
use Rattle.search.specs.LentLists.{HasRoom}
use Rattle.printing.specs.Lines.{longest_line}
use Rattle.turn.specs.Held.{drive_of, SameDrive}
use Rattle.turn.proofs.DriveUnderWay.{UnderWay}
use Rattle.drive.proofs.DriveLoop.{waiting_room, to_say}
use Rattle.drive.proofs.tell.Given as goal

abbrev pub invariant-loop : goal.invariant-loop
invariant-loop g l = record {
  same : SameDrive l.initial.drive l.drive;
  under_way : UnderWay l.truth (drive_of l.drive);
  room : HasRoom (cells_of l.drive.head) l.space;
  long : length l.page.bytes.now ≡ waiting_room;
  waits : l.page.length + longest_line ≤ waiting_room;
}

abbrev pub decreases-loop : goal.decreases-loop
decreases-loop g l = to_say true l.truth (drive_of l.drive)
