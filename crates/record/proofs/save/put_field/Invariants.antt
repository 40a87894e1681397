-- `record::save::put_field` meets its contract: before each iteration the first `i` bytes stand in the field (`FieldWritten`). Assumes nothing.
use Rattle.record.proofs.save.FieldWritten.{Putting}
use lib.ListN.{take}
use Rattle.record.proofs.save.put_field.Given as goal

abbrev pub invariant-loop-i : goal.invariant-loop-i
invariant-loop-i l = Putting (take l.i l.bytes) l.initial.part l.part
