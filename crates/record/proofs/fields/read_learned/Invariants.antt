-- `record::fields::read_learned` meets its contract: before each iteration the first `c` entries are the record's (`FillLoop`). Assumes nothing.
use Rattle.record.specs.Cells.{big_at}
use Rattle.model.proofs.Lists.FillLoop.{Filled}
use Rattle.record.proofs.fields.read_learned.Given as goal

abbrev pub invariant-loop-c : goal.invariant-loop-c
invariant-loop-c l = Filled (big_at l.part) l.c l.initial.learned l.learned
