-- `queue::rise` meets its contract. The loop keeps a gap into which the key in hand may rise (`Climb`); the gap's number falls. Assumes nothing.
use Rattle.queue.proofs.GapRises.{Climb}
use Rattle.queue.proofs.rise.Given as goal

abbrev pub invariant-loop-heap : goal.invariant-loop-heap
invariant-loop-heap l = Climb l.n l.len l.initial.heap l.initial.place l.at l.v l.heap l.place l.i

abbrev pub decreases-loop-heap : goal.decreases-loop-heap
decreases-loop-heap l = l.i
