-- What list leaves, where the front is told by its length.
use Rattle.std.specs.Prelude.{ℕ, ◌≡◌, List, length, take, Result, Ok, Err}
use Rattle.model.specs.Lent.{Lent}
use Rattle.model.specs.Listing.{AfterList, listed}
use Rattle.model.specs.declared.Head.{Head}
use Rattle.model.specs.declared.Reason.{Reason}

-- l, with its first k entries for the front
abbrev pub front_of : (k : ℕ) (l : List ℕ) → AfterList
front_of k l = record { front = take k l; buffer = l }

-- that is what list leaves of the buffer, and k is the front's length
pub record Counted (head : Head) (p : Lent) (buffer : List ℕ) (k : ℕ) (l : List ℕ) : Type 0 where
  pub count : k ≡ length (listed head p buffer).front
  pub leaves : front_of k l ≡ listed head p buffer

-- the front's length: 0 where list is refused
abbrev pub count_in : Result ℕ Reason → ℕ
count_in (Ok k) = k
count_in (Err why) = 0
