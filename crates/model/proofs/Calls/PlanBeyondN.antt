-- "entries beyond N are never touched", by a plan: neither in what is lent nor in scratch.
-- Assumes nothing.
use Rattle.std.specs.Prelude.{Ok, Err}
use mathlib.Core.Path.{◌≡◌, refl}
use mathlib.Core.Bool.{Bool, true, false, cond, ◌&&◌}
use mathlib.Core.List.{List}
use Prim.Native.Nat.{ℕ, zero, suc, ◌+◌, ◌<◌}
use native.Mathlib.Omega.{arith}
use borrow.Author.Tests.{ltb-true}
use lib.Dec.{ltb, eqb}
use lib.ListN.{get_or, set}
use Rattle.model.specs.Plot.{cells, ahead, behind, allowed}
use Rattle.model.specs.Lent.{Lent, Scratch, scratch_with}
use Rattle.model.specs.Head.{cells_of}
use Rattle.model.specs.Search.{begun, reached, looked, expanded, Ended, stopped_at, nothing_waits, out_of_iterations, first, run}
use Rattle.model.specs.Plan.{AfterPlan, answered, plan_check, searched, relinked, improved, concluded, planned}
use Rattle.model.specs.declared.Head.{Head}
use Rattle.model.specs.Verdict.{Verdict}
use Rattle.model.specs.declared.Outcome.{Outcome}
use Rattle.model.proofs.Grid.Geometry.{allowed_on}
use Rattle.model.proofs.Search.Order.{Best, best_is}
use Rattle.model.proofs.Search.SearchInvariant.{iteration}
use Rattle.model.proofs.Search.SearchEnds.{scratch_of}
use Rattle.model.proofs.Calls.PlanCases.{plan_passed}
use Rattle.model.proofs.Calls.BeyondN.{Beyond, beyond_same, beyond_trans, beyond_set, beyond_filled, LentBeyond, ScratchBeyond, lent_same}
use Rattle.model.proofs.Calls.BeyondN.{scratch_same, scratch_trans}

module _ (w h : ℕ) (ground : List ℕ) where
  look_beyond : (c d : ℕ) (s : Scratch) → ScratchBeyond (cells w h) s (looked w h ground c d s)
  unfolding looked
  look_beyond c d s = go _ _ refl
    where
      go : (a b : Bool) → allowed w h ground c d ≡ a
          → ScratchBeyond (cells w h) s (cond (a && b) (reached (ahead w h c d) (get_or s.cost c 0 + 1) d s) s)
      go true true e =
          let i = allowed_on w h ground c d e in
          record {
            mark = beyond_set (cells w h) s.mark (ahead w h c d) 1 i;
            cost = beyond_set (cells w h) s.cost (ahead w h c d) _ i;
            trail = beyond_set (cells w h) s.trail (ahead w h c d) d i;
          }
      go true false e = scratch_same (cells w h) s
      go false b e = scratch_same (cells w h) s

  expand_beyond : (c : ℕ) (s : Scratch) → c < cells w h → ScratchBeyond (cells w h) s (expanded w h ground c s)
  unfolding expanded
  expand_beyond c s i =
      scratch_trans marked
      (scratch_trans (look_beyond c 1 _) (scratch_trans (look_beyond c 2 _) (scratch_trans (look_beyond c 3 _) (look_beyond c 4 _))))
    where
      marked : ScratchBeyond (cells w h) s (scratch_with (set s.mark c 2) s.cost s.trail)
      marked = record {
        mark = beyond_set (cells w h) s.mark c 2 i;
        cost = beyond_same (cells w h) s.cost;
        trail = beyond_same (cells w h) s.trail;
      }

  relinked_beyond : (trail : List ℕ) (v c : ℕ) (link : List ℕ) → Beyond (cells w h) link (relinked w h trail v c link)
  unfolding relinked
  relinked_beyond trail zero c link = beyond_same (cells w h) link
  relinked_beyond trail (suc v) c link = go _ refl (relinked_beyond trail v)
    where
      go : (t : Bool) → ltb (behind w h c (get_or trail c 0)) (cells w h) ≡ t
          → ((c : ℕ) (link : List ℕ) → Beyond (cells w h) link (relinked w h trail v c link))
          → Beyond (cells w h) link (elim t [
            | true ↦ relinked w h trail v (behind w h c (get_or trail c 0)) (set link (behind w h c (get_or trail c 0)) (get_or trail c 0))
            | false ↦ link
          ])
      go true e rest = beyond_trans (beyond_set (cells w h) link (behind w h c (get_or trail c 0)) (get_or trail c 0) (ltb-true _ _ e)) (rest _ _)
      go false e rest = beyond_same (cells w h) link

run_beyond : (w h : ℕ) (p : Lent) (stops : ℕ → Bool) (iterations : ℕ) (s : Scratch)
    → ScratchBeyond (cells w h) s (scratch_of (run w h p stops iterations s))
unfolding run
run_beyond w h p stops zero s = scratch_same (cells w h) s
run_beyond w h p stops (suc iterations) s =
    ended (first w h p s) (best_is (cells w h) p.learned s (cells w h) (omega arith)) (run_beyond w h p stops iterations)
  where
    ended : (c : ℕ) → Best (cells w h) p.learned s (cells w h) c
        → ((t : Scratch) → ScratchBeyond (cells w h) t (scratch_of (run w h p stops iterations t)))
        → ScratchBeyond (cells w h) s (scratch_of (elim (eqb c (cells w h)) [
          | true ↦ nothing_waits s
          | false ↦ elim (stops c) [ true ↦ stopped_at c s | false ↦ run w h p stops iterations (expanded w h p.ground c s) ]
        ]))
    ended c best rest = iteration (λ a b. ScratchBeyond (cells w h) s (scratch_of (elim a [
      | true ↦ nothing_waits s
      | false ↦ elim b [ true ↦ stopped_at c s | false ↦ run w h p stops iterations (expanded w h p.ground c s) ]
    ]))) (cells w h) p.learned s stops c best (λ _ _. scratch_same (cells w h) s) (λ _ _. scratch_same (cells w h) s)
        (λ t _. scratch_trans (expand_beyond w h p.ground c s t.below) (rest (expanded w h p.ground c s)))

begun_beyond : (n cell : ℕ) (s : Scratch) → cell < n → ScratchBeyond n s (begun n cell s)
unfolding begun
begun_beyond n cell s i = record {
  mark = beyond_trans (beyond_filled n n _ s.mark (omega arith)) (beyond_set n _ cell 1 i);
  cost = beyond_trans (beyond_filled n n _ s.cost (omega arith)) (beyond_set n _ cell 0 i);
  trail = beyond_filled n n _ s.trail (omega arith);
}

-- what is lent, and scratch, after a plan
pub record PlanBeyond (head : Head) (p : Lent) (s : Scratch) (r : AfterPlan) : Type 0 where
  pub held : LentBeyond (cells_of head) p r.lists
  pub left : ScratchBeyond (cells_of head) s r.scratch

module _ (head : Head) (p : Lent) (s : Scratch) where
  nothing : (r : AfterPlan) → r.lists ≡ p → r.scratch ≡ s → PlanBeyond head p s r
  nothing r e f = record { held = rw e (lent_same (cells_of head) p); left = rw f (scratch_same (cells_of head) s) }

  concluded_beyond : (e : Ended) → ScratchBeyond (cells_of head) s (scratch_of e) → PlanBeyond head p s (concluded head p e)
  unfolding concluded improved
  concluded_beyond (stopped_at c t) b = record {
    held = record {
      ground = beyond_same (cells_of head) p.ground;
      learned = beyond_filled (cells_of head) (cells_of head) _ p.learned (omega arith);
      link = relinked_beyond head.width head.height p.ground t.trail (get_or t.cost c 0) c p.link;
    };
    left = b;
  }
  concluded_beyond (nothing_waits t) b = record { held = lent_same (cells_of head) p; left = b }
  concluded_beyond (out_of_iterations t) b = record { held = lent_same (cells_of head) p; left = b }

  pub plan_beyond : PlanBeyond head p s (planned head p s)
  unfolding planned searched
  plan_beyond = go _ refl
    where
      searched_beyond : plan_check head p s ≡ Ok tt → PlanBeyond head p s (concluded head p (searched head p s))
      searched_beyond e =
          concluded_beyond (searched head p s)
          (scratch_trans (begun_beyond (cells_of head) head.cell s (plan_passed head p s e).0.placed.cart_on)
          (run_beyond head.width head.height p _ (cells_of head) _))

      go : (v : Verdict) → plan_check head p s ≡ v → PlanBeyond head p s (elim v [
        | Ok _ ↦ elim (eqb head.cell head.goal) [
          | true ↦ record { answer = answered head 0 Outcome.Arrived; lists = p; scratch = s }
          | false ↦ concluded head p (searched head p s)
        ]
        | Err why ↦ record { answer = answered head 0 (Outcome.Refused why); lists = p; scratch = s }
      ])
      go (Ok _) e = on (eqb head.cell head.goal)
        where
          on : (b : Bool) → PlanBeyond head p s (elim b [
            | true ↦ record { answer = answered head 0 Outcome.Arrived; lists = p; scratch = s }
            | false ↦ concluded head p (searched head p s)
          ])
          on true = nothing _ refl refl
          on false = searched_beyond e
      go (Err why) e = nothing _ refl refl
