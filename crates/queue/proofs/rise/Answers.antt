-- `queue::rise` meets its contract. The loop keeps a gap into which the key in hand may rise (`Climb`); the gap's number falls. Assumes nothing.
use Rattle.queue.proofs.GapRises.{climb_up, climb_end}
use borrow.Author.Rules.{rules}
use Rattle.queue.proofs.rise.Goals as goal

pub loop-heap-preserved : goal.loop-heap-preserved
loop-heap-preserved c = climb_up _ c.loop-heap.invariant c.cell_of.ensures c.loop-heap-test.true

pub returns : goal.returns
returns c = climb_end _ c.loop-heap.invariant c.cell_of-2.ensures (search rules)
