-- `queue::Queue::pop` meets its contract: the last key is in hand, sinks from the first entry and rises again. Assumes nothing.
use native.Mathlib.Omega.{arith}
use Rattle.queue.proofs.QueueChanges.{queue_fits, pop_gap, popped}
use Rattle.queue.proofs.Queue.pop.Goals as goal

pub bounds-self-len : goal.bounds-self-len
bounds-self-len c = omega (arith, queue_fits c.requires.1, c.requires.1.room.heaps)

pub bounds-self-len-2 : goal.bounds-self-len-2
bounds-self-len-2 c = omega (arith, queue_fits c.requires.1, c.requires.1.room.heaps)

pub sink-i-requires-clause-gap : goal.sink-i-requires-clause-gap
sink-i-requires-clause-gap c = pop_gap c.requires.1 c.if-len-gt1.true

pub returns-then-len-gt1-clause-keys : goal.returns-then-len-gt1-clause-keys
returns-then-len-gt1-clause-keys c =
    popped c.requires.1 c.if-len-gt1.true c.sink-i.ensures c.rise.ensures
