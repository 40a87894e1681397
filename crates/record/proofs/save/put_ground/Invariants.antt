-- `record::save::put_ground` meets its contract: before each iteration the first `j` bytes stand in the field (`FieldWritten`), and a last
-- one that is not full is put behind them. Assumes nothing.
use Rattle.record.proofs.save.FieldWritten.{Putting}
use Rattle.model.specs.Record.{ground_byte}
use Rattle.model.specs.Lists.{gathered}
use Rattle.record.proofs.save.put_ground.Given as goal

abbrev pub invariant-loop-j : goal.invariant-loop-j
invariant-loop-j l = Putting (gathered l.j (ground_byte l.n l.ground)) l.initial.part l.part
