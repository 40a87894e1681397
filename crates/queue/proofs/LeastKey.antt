-- The first entry is the least key, and an empty queue holds none.
-- Assumes nothing.
use Prim.Native.Nat.{ℕ, zero, suc, ◌/◌, ◌≤◌, ◌<◌}
use mathlib.Core.Path.{◌≡◌}
use mathlib.Core.Logic.{⊎_elim}
use mathlib.Core.List.{List}
use native.Mathlib.Omega.{arith}
use lib.ListN.{get_or}
use Rattle.queue.specs.Queue.{none, cell, IsQueue, Keys}
use Rattle.model.proofs.Lists.Choices.{le_or}

-- ---- the first entry is the least key
module _ {n len : ℕ} {h : List ℕ} {q : List ℕ} (g : IsQueue n len h q) where
  pub first_least : (m j : ℕ) → j ≤ m → 1 ≤ j → j ≤ len → get_or h 1 0 ≤ get_or h j 0
  first_least zero j a b l = absurd (omega arith)
  first_least (suc m) j a b l =
      ⊎_elim (λ (s : j ≤ 1). let e : j ≡ 1 = omega arith in rw e (omega arith))
      (λ (s : 1 < j). let t = first_least m (j / 2) (omega arith) (omega arith) (omega arith) in omega (arith, g.order j b l))
      (le_or j 1)

  module _ (f : ℕ → ℕ) (k : Keys f n len h q) where
    -- THE FIRST ENTRY is the key of its cell, and no cell that waits has a lesser key
    pub first_own : 1 ≤ len → f (cell h 1) ≡ get_or h 1 0
    first_own l = k.is 1 (omega arith) l

    pub first_under : (x : ℕ) → x < n → f x < none → get_or h 1 0 ≤ f x
    first_under x i w = let r = k.back x i w in omega (arith, r.at, first_least (get_or q x 0) (get_or q x 0) (omega arith) r.low r.high)

    -- where the queue is empty, no cell waits
    pub empty_none : len ≤ 0 → (x : ℕ) → x < n → none ≤ f x
    empty_none l x i =
        ⊎_elim (λ (s : none ≤ f x). s) (λ (s : f x < none). let r = k.back x i s in absurd (omega (arith, r.low, r.high))) (le_or none (f x))
