-- `search::expand::expand` meets its contract. The loop keeps what the directions so far have made of scratch (`LookLaws`). Assumes nothing.
use Rattle.queue.specs.Same.{SameQueue}
use Rattle.search.specs.LentLists.{scratch_of, SameScratch}
use Rattle.search.proofs.expand.LookLaws.{Looking}
use Rattle.search.proofs.expand.expand.Given as goal

abbrev pub invariant-loop-d : goal.invariant-loop-d
invariant-loop-d l =
    Looking l.plot l.ground l.learned l.x (scratch_of l.initial.scratch) l.d (scratch_of l.scratch)
    l.queue.cells l.queue.waiting l.queue.heap.now l.queue.place.now
    × SameScratch l.initial.scratch l.scratch × SameQueue l.initial.queue l.queue
