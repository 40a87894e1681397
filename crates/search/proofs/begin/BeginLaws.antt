-- A search begins: scratch that is unseen goes with an empty queue, and the cart's cell comes in. `begun` is idempotent.
-- Assumes nothing.
use mathlib.Core.Path.{◌≡◌, sym, ap, ◌∙◌}
use mathlib.Core.List.{List}
use Prim.Native.Nat.{ℕ, ◌<◌, ◌≤◌}
use native.Mathlib.Omega.{arith}
use lib.ListN.{get_or, set, length}
use lib.Seq.{get_or-set_same, set-get_or}
use Rattle.model.specs.Lists.{filled, each}
use Rattle.model.specs.Lent.{Scratch, scratch_with}
use Rattle.model.specs.Search.{unseen_cost, begun}
use Rattle.model.proofs.Lists.Filled.{length_filled, filled_at, filled_again, filled_over}
use Rattle.queue.specs.Queue.{key_of, Lowered}
use Rattle.queue.proofs.Gaps.{room_heap}
use Rattle.search.specs.Waiting.{Queued, Did}
use Rattle.search.proofs.expand.LookLaws.{key_none, queued_reached}
use Rattle.search.specs.Begin.{CanBegin}

-- `begun` is idempotent -----------------------------------------------------------------------------------------------

pub begun_again : {n cell : ℕ} {learned : List ℕ} {s : Scratch} {heap place : List ℕ} → CanBegin n cell learned s heap place
    → begun n cell (begun n cell s) ≡ begun n cell s
unfolding begun
begun_again {n} {cell} {learned} {s} a =
    rw (
      filled_over n (each 0) s.mark cell 1 a.sized.marks a.inside,
      filled_over n (each unseen_cost) s.cost cell 0 a.sized.costs a.inside,
      filled_again n (each 0) s.trail a.sized.trails,
    )

-- The cart's cell comes in ------------------------------------------------------------------------------------------------------------

-- the lists are filled, and 0 stands before the heap
module _ {n cell : ℕ} {l : List ℕ} {s : Scratch} {h q : List ℕ} (a : CanBegin n cell l s h q) (m g t : List ℕ)
    (em : m ≡ filled n (each 0) s.mark) (eg : g ≡ filled n (each unseen_cost) s.cost) (et : t ≡ filled n (each 0) s.trail) where
  blank : (x : ℕ) → x < n → get_or m x 0 ≡ 0
  blank x i = rw em (filled_at n (each 0) s.mark a.sized.marks x i)

  -- nothing waits
  unseen_queued : Queued n l (scratch_with m g t) 0 (set h 0 0) q
  unseen_queued = record {
    some = omega (arith, a.inside);
    learneds = a.learneds;
    sized = record {
      marks = rw (em, length_filled n (each 0) s.mark) a.sized.marks;
      costs = rw (eg, length_filled n (each unseen_cost) s.cost) a.sized.costs;
      trails = rw (et, length_filled n (each 0) s.trail) a.sized.trails;
    };
    queue = record {
      room = room_heap _ _ a.room;
      small = a.small;
      base = get_or-set_same h 0 0 0 (omega (arith, a.room.heaps));
      entry = λ j b d. absurd (omega arith);
      order = λ j b d. absurd (omega arith);
    };
    keys = record {
      is = λ j b d. absurd (omega arith);
      back = λ x i b. absurd (omega (arith, key_none l (scratch_with m g t) x (λ e. omega (arith, e, blank x i))));
    };
  }

  module _ (k : ℕ) (e : k ≡ key_of 0 (get_or l cell 0) cell) where
    pub cart_waits : (h' q' : List ℕ) → Lowered n 0 (set h 0 0) q k 1 h' q'
        → Did n l (begun n cell s) (scratch_with (set m cell 1) (set g cell 0) t) 1 h' q'
    unfolding begun
    cart_waits h' q' u = record {
      is = rw (em, eg, et);
      queued = rw kept at (queued_reached unseen_queued cell 0 k a.inside e 0 1 h' q' u);
    }
      where
        kept : set t cell 0 ≡ t
        kept =
            let z : get_or t cell 0 ≡ 0 = rw et (filled_at n (each 0) s.trail a.sized.trails cell a.inside) in
            ap (set t cell) (sym z) ∙ set-get_or t cell 0
