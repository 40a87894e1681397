-- `search::hunt::hunt` meets its contract: what is left to run is what was to be run (`HuntInvariant`).
-- Assumes nothing.
use Rattle.model.specs.Lent.{lent_with}
use Rattle.queue.specs.Same.{SameQueue}
use Rattle.search.specs.LentLists.{scratch_of, SameScratch}
use Rattle.search.proofs.hunt.HuntInvariant.{Hunting}
use Prim.Native.Nat.{◌-◌}
use Rattle.search.proofs.hunt.hunt.Given as goal

abbrev pub invariant-loop-queue : goal.invariant-loop-queue
invariant-loop-queue l =
    Hunting l.head (lent_with l.ground l.learned l.link) (scratch_of l.initial.scratch) l.initial.gone l.initial.list l.count
    l.queue.waiting (scratch_of l.scratch) l.queue.heap.now l.queue.place.now l.gone l.list
    × SameScratch l.initial.scratch l.scratch × SameQueue l.initial.queue l.queue

abbrev pub decreases-loop-queue : goal.decreases-loop-queue
decreases-loop-queue l = l.plot.cells - l.count
