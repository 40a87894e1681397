-- A hunt: the search from its start to its end, over the queue.
use Rattle.std.specs.Prelude.{◌≡◌, List, ℕ, Option, Some, None, IfSome, ◌≤◌, ◌<◌, length, get_or}
use Rattle.model.specs.Head.{cells_of}
use Rattle.model.specs.Lent.{Lent, Scratch}
use Rattle.model.specs.Search.{begun, Ended, stopped_at, nothing_waits}
use Rattle.model.specs.Plan.{searched, expanded_count}
use Rattle.model.specs.Fit.{Sized}
use Rattle.model.specs.Ways.{Accepts}
use Rattle.model.specs.declared.Head.{Head}
use Rattle.search.specs.Memory.{Gone}
use Rattle.search.specs.Workspace.{Workspace}
use Rattle.search.specs.Listed.{Listed}
use Rattle.search.specs.Waiting.{Queued}

-- scratch is as a search begins, and the cart's cell alone waits; no cell is gone
pub record Huntable (head : Head) (p : Lent) (n : ℕ) (s : Scratch) (heap place gone list : List ℕ) : Type 0 where
  pub count : n ≡ cells_of head
  pub accepted : Accepts head p
  pub begins : begun n head.cell s ≡ s
  pub queued : Queued n p.learned s 1 heap place
  pub memory : Gone head.width head.height head.goal p.learned p.link gone
  pub space : Workspace n heap place gone list

-- the data are accepted, and each list has room; what scratch and the lists hold does not matter
pub record Searchable (head : Head) (p : Lent) (n : ℕ) (s : Scratch) (heap place gone list : List ℕ) : Type 0 where
  pub count : n ≡ cells_of head
  pub accepted : Accepts head p
  pub sized : Sized n s
  pub space : Workspace n heap place gone list

-- a search that ended at this cell with this scratch, or at none, with nothing waiting
abbrev pub end_at : Option ℕ → Scratch → Ended
end_at (Some c) s = stopped_at c s
end_at None s = nothing_waits s

-- it ended as document 01's search does, and the cells that it expanded are listed; the stop is on the plot, and its cost small
pub record Hunted (head : Head) (p : Lent) (n : ℕ) (s : Scratch) (at : Option ℕ) (count : ℕ) (s' : Scratch) (list : List ℕ) : Type 0 where
  pub ends : searched head p s ≡ end_at at s'
  pub counts : expanded_count n s'.mark ≡ count
  pub listed : Listed n s'.mark count list
  pub sized : Sized n s'
  pub lists : n ≤ length list
  pub within : IfSome at (λ c. c < n)
  pub near : IfSome at (λ c. get_or s'.cost c 0 ≤ n)
