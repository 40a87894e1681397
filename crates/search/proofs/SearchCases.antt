-- A search over accepted data, whatever scratch held: once started it can be hunted, and ends as document 01's search does.
-- Assumes nothing.
use mathlib.Core.Path.{◌≡◌, sym, ◌∙◌}
use mathlib.Core.List.{List}
use Prim.Native.Nat.{ℕ}
use native.Mathlib.Omega.{arith}
use Rattle.std.specs.Prelude.{Option}
use Rattle.model.specs.Lists.{filled, each}
use Rattle.model.specs.Lent.{Lent, Scratch}
use Rattle.model.specs.Search.{begun}
use Rattle.model.specs.Plan.{searched}
use Rattle.model.specs.declared.Head.{Head}
use Rattle.model.proofs.Lists.Filled.{length_filled, filled_at}
use Rattle.model.proofs.Calls.Acceptance.{accepts_held}
use Rattle.search.specs.Begin.{CanBegin}
use Rattle.search.specs.Waiting.{Did}
use Rattle.search.specs.Hunt.{Searchable, Huntable, Hunted}
use Rattle.search.proofs.begin.BeginLaws.{begun_again}

module _ {head : Head} {p : Lent} {n : ℕ} {s : Scratch} {heap place gone list : List ℕ} (a : Searchable head p n s heap place gone list) where
  pub can_begin : CanBegin n head.cell p.learned s heap place
  can_begin =
      let t = accepts_held head p a.accepted in
      record {
        small = omega (arith, a.count, t.placed.few);
        inside = omega (arith, a.count, t.placed.cart_on);
        learneds = omega (arith, a.count, t.room.learneds);
        sized = a.sized;
        room = a.space.queue;
      }

  pub huntable : (t : Scratch) (heap' place' gone' : List ℕ) → Did n p.learned (begun n head.cell s) t 1 heap' place'
      → gone' ≡ filled n (each 0) gone
      → Huntable head p n t heap' place' gone' list
  huntable t heap' place' gone' d e = record {
    count = a.count;
    accepted = a.accepted;
    begins = rw d.is (begun_again can_begin);
    queued = d.queued;
    memory = record { never = λ x i m. absurd (m (rw e (filled_at n (each 0) gone a.space.gones x (omega (arith, a.count))))) };
    space = record { queue = d.queued.queue.room; gones = rw (e, length_filled n (each 0) gone) a.space.gones; lists = a.space.lists };
  }

  -- what begins again is searched alike
  searched_alike : (t : Scratch) → t ≡ begun n head.cell s → searched head p t ≡ searched head p s
  unfolding searched
  searched_alike t e = rw (← a.count, e, begun_again can_begin)

  pub hunted : (t : Scratch) (heap' place' : List ℕ) (at : Option ℕ) (count : ℕ) (u : Scratch) (list' : List ℕ)
      → Did n p.learned (begun n head.cell s) t 1 heap' place'
      → Hunted head p n t at count u list' → Hunted head p n s at count u list'
  hunted t heap' place' at count u list' d r = record {
    ends = sym (searched_alike t d.is) ∙ r.ends;
    counts = r.counts;
    listed = r.listed;
    sized = r.sized;
    lists = r.lists;
    within = r.within;
    near = r.near;
  }
