-- `record::fields::read_links` meets its contract: before each iteration the first `c` entries are those of the part (`FillLoop`). Assumes nothing.
use Rattle.record.specs.Cells.{byte_at}
use Rattle.model.proofs.Lists.FillLoop.{Filled}
use Rattle.record.proofs.fields.read_links.Given as goal

abbrev pub invariant-loop-c : goal.invariant-loop-c
invariant-loop-c l = Filled (byte_at l.part) l.c l.initial.link l.link
