-- `queue::sink` meets its contract. The loop keeps a gap from which the key in hand may fall (`Fall`); what lies below it falls. Assumes nothing.
use Rattle.queue.proofs.GapSinks.{fall_down}
use Rattle.queue.proofs.sink.Goals as goal

pub loop-i-preserved : goal.loop-i-preserved
loop-i-preserved c =
    fall_down _ _ c.loop-i.invariant c.loop-i-test.true c.lesser-k.ensures
    c.cell_of.ensures
