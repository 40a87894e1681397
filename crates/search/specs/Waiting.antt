-- How the queue stands to scratch while a search runs: it holds the key of each waiting cell, and no other.
use Rattle.std.specs.Prelude.{ℕ, zero, suc, ◌+◌, ◌≤◌, ◌<◌, ◌≡◌, cond, ◌&&◌, List, get_or, length, ltb}
use Rattle.model.specs.Plot.{free}
use Rattle.model.specs.Lent.{Scratch}
use Rattle.model.specs.Fit.{Sized}
use Rattle.model.specs.Search.{waits, reached, looked}
use Rattle.queue.specs.Queue.{key_of, none, IsQueue, Keys}

-- the key of a waiting cell, and none where it does not wait
unfoldable pub key_for : (learned : List ℕ) → Scratch → ℕ → ℕ
key_for learned s x = cond (waits s.mark x) (key_of (get_or s.cost x 0) (get_or learned x 0) x) none

-- a look at cell y, at cost g by direction d: nothing where it is off the plot, blocked or reached as cheaply
unfoldable pub looked_at : (ground : List ℕ) (n y g d : ℕ) → Scratch → Scratch
looked_at ground n y g d s = cond (ltb y n && (free ground y && ltb g (get_or s.cost y 0))) (reached y g d s) s

-- cell c has looked in the first k directions
unfoldable pub looks_to : (w h : ℕ) (ground : List ℕ) (c k : ℕ) → Scratch → Scratch
looks_to w h ground c zero s = s
looks_to w h ground c (suc k) s = looked w h ground c (k + 1) (looks_to w h ground c k s)

-- what every function of the search is handed and hands back
pub record Queued (n : ℕ) (learned : List ℕ) (s : Scratch) (len : ℕ) (heap place : List ℕ) : Type 0 where
  pub some : 0 < n
  pub learneds : n ≤ length learned
  pub sized : Sized n s
  pub queue : IsQueue n len heap place
  pub keys : Keys (key_for learned s) n len heap place

-- scratch is as wanted, and goes with the queue again
pub record Did (n : ℕ) (learned : List ℕ) (want s : Scratch) (len : ℕ) (heap place : List ℕ) : Type 0 where
  pub is : s ≡ want
  pub queued : Queued n learned s len heap place
