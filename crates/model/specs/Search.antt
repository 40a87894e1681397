-- The search of plan: the order in which cells are taken, an expansion, and the loop.
use Rattle.std.specs.Prelude.{ℕ, zero, suc, ◌+◌, Bool, true, false, cond, ◌&&◌, ◌||◌, List, get_or, set, ltb, eqb}
use Rattle.model.specs.Lists.{filled, each}
use Rattle.model.specs.Plot.{cells, ahead, allowed}
use Rattle.model.specs.Lent.{Lent, Scratch, scratch_with}

abbrev pub unseen_cost : ℕ
unseen_cost = 65535

-- "scratch is set to unseen; the cart's cell gets cost 0 and waits"
unfoldable pub begun : (n cell : ℕ) → Scratch → Scratch
begun n cell s =
    scratch_with (set (filled n (each 0) s.mark) cell 1) (set (filled n (each unseen_cost) s.cost) cell 0)
    (filled n (each 0) s.trail)

-- The order --------------------------------------------------------------------------------------------------------------------

-- cost + learned
abbrev pub total : (learned cost : List ℕ) → ℕ → ℕ
total learned cost c = get_or cost c 0 + get_or learned c 0

-- the smaller of x and y comes first; among equals the next rule says
unfoldable pub smaller_first : (x y : ℕ) (next : Bool) → Bool
smaller_first x y next = ltb x y || (eqb x y && next)

-- "the smallest cost + learned; among these the larger cost; among these the lower cell number": a is taken before b. (The
-- larger cost comes first where b's is the smaller.)
unfoldable pub earlier : (learned : List ℕ) → Scratch → (a b : ℕ) → Bool
earlier learned s a b =
    smaller_first (total learned s.cost a) (total learned s.cost b)
    (smaller_first (get_or s.cost b 0) (get_or s.cost a 0)
    (smaller_first a b false))

abbrev pub waits : (mark : List ℕ) (c : ℕ) → Bool
waits mark c = eqb (get_or mark c 0) 1

-- b, the first so far (n for none), or k where it waits and is taken before b
unfoldable pub sooner : (n : ℕ) (learned : List ℕ) → Scratch → (k b : ℕ) → ℕ
sooner n learned s k b = cond (waits s.mark k && (eqb b n || earlier learned s k b)) k b

-- of the cells below k the waiting one that is taken first, or n where none waits
unfoldable pub best : (n : ℕ) (learned : List ℕ) → Scratch → (k : ℕ) → ℕ
best n learned s zero = n
best n learned s (suc k) = sooner n learned s k (best n learned s k)

-- the cell to take, or N where nothing waits
abbrev pub first : (w h : ℕ) → Lent → Scratch → ℕ
first w h p s = best (cells w h) p.learned s (cells w h)

-- An expansion -------------------------------------------------------------------------------------------------------------------

-- x is reached at this cost by a step in direction d, and waits
abbrev pub reached : (x cost d : ℕ) → Scratch → Scratch
reached x cost d s = scratch_with (set s.mark x 1) (set s.cost x cost) (set s.trail x d)

-- "where its cost + 1 is less than the neighbour's cost, set the neighbour's cost and trail, and it waits": c looks in
-- direction d
unfoldable pub looked : (w h : ℕ) (ground : List ℕ) (c d : ℕ) → Scratch → Scratch
looked w h ground c d s =
    cond (allowed w h ground c d && ltb (get_or s.cost c 0 + 1) (get_or s.cost (ahead w h c d) 0))
    (reached (ahead w h c d) (get_or s.cost c 0 + 1) d s)
    s

-- "mark it expanded and look at its free neighbours in direction order"
unfoldable pub expanded : (w h : ℕ) (ground : List ℕ) (c : ℕ) → Scratch → Scratch
expanded w h ground c s =
    looked w h ground c 4 (looked w h ground c 3 (looked w h ground c 2 (looked w h ground c 1 (
    scratch_with (set s.mark c 2) s.cost s.trail))))

-- The loop -----------------------------------------------------------------------------------------------------------------------

-- how a search ends: at a cell, with nothing waiting, or with its iterations spent
pub data Ended : Type 0 where
  stopped_at : (c : ℕ) → Scratch → Ended
  nothing_waits : Scratch → Ended
  out_of_iterations : Scratch → Ended

-- "Repeatedly take the waiting cell .. If [it stops there], stop there; that cell stays marked waiting. Otherwise [expand it]."
-- Whether it stops at a cell is a parameter. N iterations are enough (proofs/Search/SearchEnds, `search_ends`): no cell is expanded
-- twice, and the goal never is
unfoldable pub run : (w h : ℕ) → Lent → (stops : ℕ → Bool) → (iterations : ℕ) → Scratch → Ended
run w h p stops zero s = out_of_iterations s
run w h p stops (suc iterations) s =
    let c = first w h p s in
    elim (eqb c (cells w h)) [
      | true ↦ nothing_waits s
      | false ↦ elim (stops c) [
        | true ↦ stopped_at c s
        | false ↦ run w h p stops iterations (expanded w h p.ground c s)
      ]
    ]
