-- `record::fields::read_learned` meets its contract: before each iteration the first `c` entries are the record's (`FillLoop`). Assumes nothing.
use Rattle.record.specs.Cells.{big_at}
use Rattle.model.proofs.Lists.FillLoop.{fill_begin, fill_next}
use Rattle.record.proofs.fields.read_learned.Goals as goal

pub loop-c-init : goal.loop-c-init
loop-c-init c = fill_begin (big_at _) _

pub loop-c-preserved : goal.loop-c-preserved
unfolding big_at
loop-c-preserved c = fill_next _ c.loop-c.invariant c.big_of.ensures
