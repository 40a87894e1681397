-- What a method leaves of the queue that it changes: the same lists, of the same lengths, for the same plot.
use Rattle.std.specs.Prelude.{◌≡◌, length}
use Rattle.queue.specs.declared.Queue.{Queue}

pub record SameQueue (old new : Queue) : Type 0 where
  pub heap : new.heap.ghost_name ≡ old.heap.ghost_name
  pub place : new.place.ghost_name ≡ old.place.ghost_name
  pub heap_long : length new.heap.now ≡ length old.heap.now
  pub place_long : length new.place.now ≡ length old.place.now
  pub cells : new.cells ≡ old.cells
