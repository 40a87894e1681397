-- The working space of a search: the queue's two lists, the stop test's memory and the list of expanded cells.
use Rattle.std.specs.Prelude.{List, ℕ, ◌≤◌, length}
use Rattle.queue.specs.Queue.{QueueRoom}

-- room for n cells; what it holds does not matter
pub record Workspace (n : ℕ) (heap place gone list : List ℕ) : Type 0 where
  pub queue : QueueRoom n heap place
  pub gones : n ≤ length gone
  pub lists : n ≤ length list
