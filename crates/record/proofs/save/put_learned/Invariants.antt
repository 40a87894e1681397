-- `record::save::put_learned` meets its contract: before each iteration the first `i` values stand in the field (`FieldWritten`). Assumes nothing.
use Rattle.record.proofs.save.FieldWritten.{Putting}
use Rattle.model.specs.Record.{learned_bytes}
use Rattle.model.specs.Lists.{gathered}
use Rattle.record.proofs.save.put_learned.Given as goal

abbrev pub invariant-loop-i : goal.invariant-loop-i
invariant-loop-i l = Putting (gathered l.i (learned_bytes l.learned)) l.initial.part l.part
