-- The search keeps the theory's invariant and ends by itself, before its iterations are spent. All of it is over any test that
-- stops at the goal.
-- Assumes nothing.
use mathlib.Core.Path.{◌≡◌, refl, sym, ◌∙◌}
use mathlib.Core.Logic.{◌≢◌}
use mathlib.Core.Bool.{Bool, true, false, false≢true}
use mathlib.Core.List.{List}
use Prim.Native.Nat.{ℕ, zero, suc, ◌+◌, ◌≤◌, ◌<◌}
use native.Mathlib.Decide.{dec_lt, ℕ_discrete}
use native.Mathlib.Omega.{arith}
use borrow.Author.Tests.{eqb-true, eqb-false, eq-eqb, ne_eqb}
use lib.Dec.{eqb}
use lib.ListN.{get_or}
use Rattle.walks.specs.Search.{Search, Pick, Expansion}
use Rattle.walks.proofs.Searches.{pick_below, seen_has}
use Rattle.walks.proofs.Expansion.{OneMore, search_goes_on, one_more_expanded}
use Rattle.model.specs.Lists.{tally}
use Rattle.model.specs.Plot.{cells, free}
use Rattle.model.specs.Lent.{Lent, Scratch}
use Rattle.model.specs.Search.{unseen_cost, expanded, Ended, stopped_at, nothing_waits, first, run}
use Rattle.model.specs.Plan.{is_expanded, expanded_count}
use Rattle.model.specs.Ways.{Leg, Adj}
use Rattle.model.proofs.Lists.Filled.{tally_all, tally_more}
use Rattle.model.proofs.Grid.Geometry.{adj_inside, adj_free}
use Rattle.model.specs.Fit.{Fit, Sized, Placed}
use Rattle.model.proofs.Calls.Soundness.{fit_consistent}
use Rattle.model.proofs.Grid.Views.{at, mark_in, view, mark_on, seen_inside}
use Rattle.model.proofs.Search.Order.{Foremost, Best, none, some, earlier_le, best_is}
use Rattle.model.proofs.Search.Expansions.{expand_is, expand_sized}

-- the theory's invariant of this search
abbrev pub Holds : (w h cell : ℕ) → Lent → (stops : ℕ → Bool) → Scratch → Type 0
Holds w h cell p stops s =
    Search (Adj w h p.ground) (Leg w h p.ground) (at p.learned) (λ x. stops x ≡ true) cell unseen_cost (view (cells w h) s)

-- the search stopped at t
pub record Stopped (w h cell : ℕ) (p : Lent) (stops : ℕ → Bool) (t : ℕ) (s : Scratch) : Type 0 where
  pub inside : t < cells w h
  pub holds : Holds w h cell p stops s
  pub sized : Sized (cells w h) s
  pub pick : Pick (at p.learned) (view (cells w h) s) t
  pub halted : stops t ≡ true

-- nothing waits
pub record Emptied (w h cell : ℕ) (p : Lent) (stops : ℕ → Bool) (s : Scratch) : Type 0 where
  pub holds : Holds w h cell p stops s
  pub sized : Sized (cells w h) s
  pub none_waits : (x : ℕ) → mark_in (cells w h) s.mark x ≢ 1

-- how a search ends; there is no case for one whose iterations are spent
pub data Ends (w h cell : ℕ) (p : Lent) (stops : ℕ → Bool) : Ended → Type 0 where
  stopped : {t : ℕ} {s : Scratch} → Stopped w h cell p stops t s → Ends w h cell p stops (stopped_at t s)
  emptied : {s : Scratch} → Emptied w h cell p stops s → Ends w h cell p stops (nothing_waits s)

-- one iteration: nothing waits, or a cell is taken and the search stops there or goes on
pub iteration : (Q : Bool → Bool → Type 0) (n : ℕ) (learned : List ℕ) (s : Scratch) (stops : ℕ → Bool) (c : ℕ) → Best n learned s n c
    → (((y : ℕ) → y < n → get_or s.mark y 0 ≢ 1) → (b : Bool) → Q true b)
    → (Foremost learned s n c → stops c ≡ true → Q false true) → (Foremost learned s n c → stops c ≡ false → Q false false)
    → Q (eqb c n) (stops c)
iteration Q n learned s stops c best none_waits halts goes = go _ _ refl refl best
  where
    go : (a b : Bool) → eqb c n ≡ a → stops c ≡ b → Best n learned s n c → Q a b
    go true b e f (none v free) = none_waits free b
    go true b e f (some t) = absurd (omega (arith, eqb-true c n e, t.below))
    go false b e f (none v free) = absurd (eqb-false c n e v)
    go false true e f (some t) = halts t f
    go false false e f (some t) = goes t f

-- a cell is marked expanded
marked_two : (mark : List ℕ) (n x : ℕ) → x < n → mark_in n mark x ≡ 2 → is_expanded mark x ≡ true
marked_two mark n x l e = eq-eqb (get_or mark x 0) 2 (sym (mark_on n mark x l) ∙ e)

two_marked : (mark : List ℕ) (n x : ℕ) → x < n → is_expanded mark x ≡ true → mark_in n mark x ≡ 2
two_marked mark n x l e = mark_on n mark x l ∙ eqb-true (get_or mark x 0) 2 e

module _ {w h goal cell : ℕ} (p : Lent) (stops : ℕ → Bool) (r : Placed w h goal cell) (f : Fit w h goal cell p) (halts : stops goal ≡ true) where
  module _ (s : Scratch) (I : Holds w h cell p stops s) (z : Sized (cells w h) s) where
    -- a seen cell is free
    pub seen_free : (x : ℕ) → 1 ≤ mark_in (cells w h) s.mark x → free p.ground x ≡ true
    seen_free x l = seen_has I (λ y. free p.ground y ≡ true) f.cart adj_free l

    -- AT MOST N - 1 CELLS are expanded, since the goal never is
    pub expanded_below : expanded_count (cells w h) s.mark < cells w h
    unfolding expanded_count
    expanded_below = go (dec_lt _ _)
      where
        goal_open : is_expanded s.mark goal ≢ true
        goal_open e = I.going goal (two_marked s.mark (cells w h) goal r.goal_on e) halts

        go : Dec (tally (cells w h) (is_expanded s.mark) < cells w h) → tally (cells w h) (is_expanded s.mark) < cells w h
        go (yes l) = l
        go (no l) = absurd (goal_open (tally_all (cells w h) (is_expanded s.mark) (omega arith) goal r.goal_on))

    -- the cell taken is a pick of the theory's
    pub taken : (x : ℕ) → Foremost p.learned s (cells w h) x → Pick (at p.learned) (view (cells w h) s) x
    taken x t = record {
      waits = mark_on (cells w h) s.mark x t.below ∙ t.waiting;
      first = λ y v.
          let j = seen_inside (cells w h) s.mark y (omega arith) in
          least y (λ d. earlier_le p.learned s x y (t.before y j (sym (mark_on (cells w h) s.mark y j) ∙ v) d));
    }
      where
        least : (y : ℕ) → (y ≢ x → at s.cost x + at p.learned x ≤ at s.cost y + at p.learned y)
            → at s.cost x + at p.learned x ≤ at s.cost y + at p.learned y
        least y other = go (ℕ_discrete y x)
          where
            go : Dec (y ≡ x) → at s.cost x + at p.learned x ≤ at s.cost y + at p.learned y
            go (yes e) = rw e (omega arith)
            go (no d) = other d

    module _ (x : ℕ) (t : Foremost p.learned s (cells w h) x) (open' : stops x ≡ false) where
      goes : ¬ (stops x ≡ true)
      goes e = false≢true (sym open' ∙ e)

      step_is : Expansion (Adj w h p.ground) (Leg w h p.ground) x (view (cells w h) s) (view (cells w h) (expanded w h p.ground x s))
      step_is = expand_is w h p.ground x t.below s z

      room_above : at s.cost x + 1 < unseen_cost
      room_above = omega (arith, pick_below I (fit_consistent f) adj_inside r.cart_on (taken x t), r.few)

      -- expanding it keeps the invariant
      pub goes_on : Holds w h cell p stops (expanded w h p.ground x s)
      goes_on = search_goes_on I (fit_consistent f) (taken x t) room_above goes step_is

      pub goes_sized : Sized (cells w h) (expanded w h p.ground x s)
      goes_sized = expand_sized w h p.ground x t.below s z

      -- x is expanded now, and of the other cells the same are
      pub newly : OneMore (mark_in (cells w h) s.mark) (mark_in (cells w h) (expanded w h p.ground x s).mark) 2 x
      newly = one_more_expanded I (fit_consistent f) (taken x t) room_above goes step_is

      -- so one cell more, and none twice
      pub one_more : expanded_count (cells w h) (expanded w h p.ground x s).mark ≡ expanded_count (cells w h) s.mark + 1
      unfolding expanded_count
      one_more =
          tally_more (cells w h) (is_expanded s.mark) (is_expanded (expanded w h p.ground x s).mark) x t.below
          (ne_eqb (get_or s.mark x 0) 2 (omega (arith, t.waiting)))
          (marked_two _ (cells w h) x t.below newly.after)
          (λ j l d e. marked_two _ (cells w h) j l (newly.to j d (two_marked s.mark (cells w h) j l e)))
          (λ j l d e. marked_two _ (cells w h) j l (newly.back j d (two_marked (expanded w h p.ground x s).mark (cells w h) j l e)))

  -- THE SEARCH ENDS before its iterations are spent.
  pub run_ends : (iterations : ℕ) (s : Scratch) → Holds w h cell p stops s → Sized (cells w h) s
      → cells w h ≤ iterations + expanded_count (cells w h) s.mark → Ends w h cell p stops (run w h p stops iterations s)
  unfolding run
  run_ends zero s I z l = absurd (omega (arith, expanded_below s I z))
  run_ends (suc iterations) s I z l =
      ended (first w h p s) (best_is (cells w h) p.learned s (cells w h) (omega arith)) (run_ends iterations)
    where
      ended : (c : ℕ) → Best (cells w h) p.learned s (cells w h) c
          → ((t : Scratch) → Holds w h cell p stops t → Sized (cells w h) t → cells w h ≤ iterations + expanded_count (cells w h) t.mark
          → Ends w h cell p stops (run w h p stops iterations t))
          → Ends w h cell p stops (elim (eqb c (cells w h)) [
            | true ↦ nothing_waits s
            | false ↦ elim (stops c) [ true ↦ stopped_at c s | false ↦ run w h p stops iterations (expanded w h p.ground c s) ]
          ])
      ended c best rest = iteration (λ a b. Ends w h cell p stops (elim a [
        | true ↦ nothing_waits s
        | false ↦ elim b [ true ↦ stopped_at c s | false ↦ run w h p stops iterations (expanded w h p.ground c s) ]
      ])) (cells w h) p.learned s stops c best
          (λ free b. emptied (record {
            holds = I;
            sized = z;
            none_waits = λ y m. let j = seen_inside (cells w h) s.mark y (omega arith) in free y j (sym (mark_on (cells w h) s.mark y j) ∙ m);
          }))
          (λ t e. stopped (record { inside = t.below; holds = I; sized = z; pick = taken s I z c t; halted = e }))
          (λ t e. rest (expanded w h p.ground c s) (goes_on s I z c t e) (goes_sized s I z c t e) (omega (arith, one_more s I z c t e)))
