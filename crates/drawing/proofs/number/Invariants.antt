-- `drawing::number` meets its contract: before each iteration what is still to be read is the same. Assumes nothing.
use Rattle.std.proofs.Common.{◌≡◌, ◌<◌, length}
use Rattle.drawing.specs.Drawing.{value, behind}
use Rattle.drawing.proofs.number.Given as goal

abbrev pub invariant-loop-byte : goal.invariant-loop-byte
invariant-loop-byte l = record {
  value : value l.value l.rest ≡ value 0 l.bytes;
  rest : behind l.rest ≡ behind l.bytes;
  small : l.value < 100000;
}

abbrev pub decreases-loop-byte : goal.decreases-loop-byte
decreases-loop-byte l = length l.rest
