-- `record::fields::read_ground` meets its contract: before each iteration the cells of the first `j` bytes are those of the part, and then
-- the first `c` cells (`FillLoop`). Assumes nothing.
use Rattle.record.proofs.fields.SpreadBits.{byte_next}
use Rattle.record.specs.Cells.{bit_at}
use Rattle.model.proofs.Lists.FillLoop.{fill_begin, fill_next}
use Rattle.record.proofs.fields.read_ground.Goals as goal

pub loop-j-init : goal.loop-j-init
loop-j-init c = fill_begin (bit_at _) _

pub loop-j-preserved : goal.loop-j-preserved
loop-j-preserved c =
    byte_next _ c.loop-j.j _ _ _ c.loop-j.invariant c.byte_of-byte.ensures
    c.spread-low.ensures c.spread-high.ensures
    c.put_four.ensures c.put_four-in-loop-j.ensures

pub loop-c-preserved : goal.loop-c-preserved
unfolding bit_at
loop-c-preserved c = fill_next _ c.loop-c.invariant c.bit_of.ensures
