-- `record::fields::read_links` meets its contract: before each iteration the first `c` entries are those of the part (`FillLoop`). Assumes nothing.
use Rattle.record.specs.Cells.{byte_at}
use Rattle.model.proofs.Lists.FillLoop.{fill_begin, fill_next}
use Rattle.record.proofs.fields.read_links.Goals as goal

pub loop-c-init : goal.loop-c-init
loop-c-init c = fill_begin (byte_at _) _

pub loop-c-preserved : goal.loop-c-preserved
unfolding byte_at
loop-c-preserved c = fill_next _ c.loop-c.invariant c.byte_of.ensures
