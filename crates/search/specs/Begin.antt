-- What a search is given to start with.
use Rattle.std.specs.Prelude.{List, ℕ, ◌≤◌, ◌<◌, length}
use Rattle.model.specs.Lent.{Scratch}
use Rattle.model.specs.Fit.{Sized}
use Rattle.queue.specs.Queue.{QueueRoom}

-- the cart's cell is on the plot, and each list has room; what they hold does not matter
pub record CanBegin (n cell : ℕ) (learned : List ℕ) (s : Scratch) (heap place : List ℕ) : Type 0 where
  pub small : n ≤ 65534
  pub inside : cell < n
  pub learneds : n ≤ length learned
  pub sized : Sized n s
  pub room : QueueRoom n heap place
