-- `queue::sink` meets its contract. The loop keeps a gap from which the key in hand may fall (`Fall`); what lies below it falls. Assumes nothing.
use Prim.Native.Nat.{◌-◌}
use Rattle.queue.proofs.GapSinks.{Fall}
use Rattle.queue.proofs.sink.Given as goal

abbrev pub invariant-loop-i : goal.invariant-loop-i
invariant-loop-i l = Fall l.n l.len l.initial.heap l.initial.place l.v l.heap l.place l.i

abbrev pub decreases-loop-i : goal.decreases-loop-i
decreases-loop-i l = l.len - l.i
