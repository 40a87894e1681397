-- The search's start keeps the invariant, so a search over accepted data ends: it stops, or nothing waits.
-- No cell is expanded twice.
-- Assumes nothing.
use mathlib.Core.Path.{◌≡◌, ap, ◌∙◌}
use mathlib.Core.Logic.{◌≢◌}
use mathlib.Core.Bool.{Bool, true, false}
use mathlib.Core.List.{List}
use Prim.Native.Nat.{ℕ, zero, suc, ◌+◌, ◌<◌}
use native.Mathlib.Decide.{dec_lt, ℕ_discrete}
use native.Mathlib.Omega.{arith}
use borrow.Author.Tests.{ne_eqb}
use lib.Dec.{eqb}
use lib.ListN.{get_or, length-set}
use lib.Seq.{get_or-set_same, get_or-set_other}
use Rattle.walks.specs.Search.{Begun}
use Rattle.walks.proofs.Searches.{search_begins}
use Rattle.model.specs.Lists.{filled, each}
use Rattle.model.specs.Plot.{cells}
use Rattle.model.specs.Lent.{Lent, Scratch}
use Rattle.model.specs.Search.{unseen_cost, begun, expanded, Ended, stopped_at, nothing_waits, out_of_iterations, first, run}
use Rattle.model.specs.Plan.{expanded_count}
use Rattle.model.specs.Ways.{Adj}
use Rattle.model.proofs.Lists.Filled.{tally_none, length_filled, filled_at}
use Rattle.model.proofs.Grid.Geometry.{adj_inside}
use Rattle.model.specs.Fit.{Fit, Sized, Placed}
use Rattle.model.proofs.Grid.Views.{mark_in, view, mark_on, mark_off, mark_set_same, mark_set_other}
use Rattle.model.proofs.Search.Order.{Best, best_is}
use Rattle.model.proofs.Search.SearchInvariant.{Holds, Ends, iteration, goes_on, goes_sized, one_more, run_ends}

module _ (w h cell : ℕ) (ground : List ℕ) (s : Scratch) (z : Sized (cells w h) s) (i : cell < cells w h) where
  pub begun_sized : Sized (cells w h) (begun (cells w h) cell s)
  unfolding begun
  begun_sized = record {
    marks = simp (length-set, length_filled) z.marks;
    costs = simp (length-set, length_filled) z.costs;
    trails = simp length_filled z.trails;
  }

  blank_mark : (x : ℕ) → mark_in (cells w h) (filled (cells w h) (each 0) s.mark) x ≡ 0
  blank_mark x = go (dec_lt x (cells w h))
    where
      go : Dec (x < cells w h) → mark_in (cells w h) (filled (cells w h) (each 0) s.mark) x ≡ 0
      go (yes l) = mark_on (cells w h) (filled (cells w h) (each 0) s.mark) x l ∙ filled_at (cells w h) (each 0) s.mark z.marks x l
      go (no l) = mark_off (cells w h) (filled (cells w h) (each 0) s.mark) x (omega arith)

  -- the cart's cell waits at cost 0, and no other cell is seen
  begun_is : Begun (Adj w h ground) cell unseen_cost (view (cells w h) (begun (cells w h) cell s))
  unfolding begun
  begun_is = record {
    waits = mark_set_same (cells w h) (filled (cells w h) (each 0) s.mark) cell 1 (simp length_filled z.marks) i;
    free = get_or-set_same (filled (cells w h) (each unseen_cost) s.cost) cell 0 0 (simp length_filled (omega (arith, z.costs)));
    blank = λ x d. mark_set_other (cells w h) (filled (cells w h) (each 0) s.mark) cell x 1 d ∙ blank_mark x;
    dear = λ x y a d.
        get_or-set_other (filled (cells w h) (each unseen_cost) s.cost) cell y 0 0 d
        ∙ filled_at (cells w h) (each unseen_cost) s.cost z.costs y (omega (arith, adj_inside x y a));
  }

  -- nothing is expanded yet
  pub begun_open : (x : ℕ) → x < cells w h → get_or (begun (cells w h) cell s).mark x 0 ≢ 2
  begun_open x l e = go (ℕ_discrete x cell)
    where
      m : mark_in (cells w h) (begun (cells w h) cell s).mark x ≡ 2
      m = mark_on (cells w h) (begun (cells w h) cell s).mark x l ∙ e

      go : Dec (x ≡ cell) → ⊥
      go (yes q) = omega (arith, m, begun_is.waits, ap (mark_in (cells w h) (begun (cells w h) cell s).mark) q)
      go (no d) = omega (arith, m, begun_is.blank x d)

  pub begun_none : expanded_count (cells w h) (begun (cells w h) cell s).mark ≡ 0
  unfolding expanded_count
  begun_none = tally_none (cells w h) _ (λ x l. ne_eqb _ 2 (begun_open x l))

-- how many cells a search expands, one after another
unfoldable pub rounds : (w h : ℕ) → Lent → (stops : ℕ → Bool) → (iterations : ℕ) → Scratch → ℕ
rounds w h p stops zero s = 0
rounds w h p stops (suc iterations) s =
    let c = first w h p s in
    elim (eqb c (cells w h)) [
      | true ↦ 0
      | false ↦ elim (stops c) [
        | true ↦ 0
        | false ↦ rounds w h p stops iterations (expanded w h p.ground c s) + 1
      ]
    ]

-- the scratch that a search left
abbrev pub scratch_of : Ended → Scratch
scratch_of (stopped_at c s) = s
scratch_of (nothing_waits s) = s
scratch_of (out_of_iterations s) = s

module _ {w h goal cell : ℕ} (p : Lent) (stops : ℕ → Bool) (r : Placed w h goal cell) (f : Fit w h goal cell p) (halts : stops goal ≡ true) where
  rounds_marks : (iterations : ℕ) (s : Scratch) → Holds w h cell p stops s → Sized (cells w h) s
      → expanded_count (cells w h) (scratch_of (run w h p stops iterations s)).mark ≡ expanded_count (cells w h) s.mark
      + rounds w h p stops iterations s
  unfolding run rounds
  rounds_marks zero s I z = omega arith
  rounds_marks (suc iterations) s I z =
      counted (first w h p s) (best_is (cells w h) p.learned s (cells w h) (omega arith)) (rounds_marks iterations)
    where
      Counted : ℕ → Bool → Bool → Type 0
      Counted c a b =
          expanded_count (cells w h) (scratch_of (elim a [
            | true ↦ nothing_waits s
            | false ↦ elim b [ true ↦ stopped_at c s | false ↦ run w h p stops iterations (expanded w h p.ground c s) ]
          ])).mark
          ≡ expanded_count (cells w h) s.mark + elim a [
            | true ↦ 0
            | false ↦ elim b [ true ↦ 0 | false ↦ rounds w h p stops iterations (expanded w h p.ground c s) + 1 ]
          ]

      counted : (c : ℕ) → Best (cells w h) p.learned s (cells w h) c
          → ((t : Scratch) → Holds w h cell p stops t → Sized (cells w h) t
          → expanded_count (cells w h) (scratch_of (run w h p stops iterations t)).mark ≡ expanded_count (cells w h) t.mark
          + rounds w h p stops iterations t)
          → Counted c (eqb c (cells w h)) (stops c)
      counted c best rest =
          iteration (Counted c) (cells w h) p.learned s stops c best (λ _ b. omega arith) (λ _ _. omega arith)
          (λ t e. omega (
            arith,
            rest (expanded w h p.ground c s) (goes_on p stops r f halts s I z c t e) (goes_sized p stops r f halts s I z c t e),
            one_more p stops r f halts s I z c t e,
          ))

  module _ (s : Scratch) (z : Sized (cells w h) s) where
    pub start_holds : Holds w h cell p stops (begun (cells w h) cell s)
    start_holds = search_begins (begun_is w h cell p.ground s z r.cart_on)

    pub start_sized : Sized (cells w h) (begun (cells w h) cell s)
    start_sized = begun_sized w h cell p.ground s z r.cart_on

    -- A SEARCH over accepted data stops, or ends with nothing waiting: its N iterations are never spent.
    pub search_ends : Ends w h cell p stops (run w h p stops (cells w h) (begun (cells w h) cell s))
    search_ends = run_ends p stops r f halts (cells w h) (begun (cells w h) cell s) start_holds start_sized (omega arith)

    -- NO CELL IS EXPANDED TWICE: the marks 2 that are left are as many as the cells expanded one after another.
    pub rounds_are_marks :
        expanded_count (cells w h) (scratch_of (run w h p stops (cells w h) (begun (cells w h) cell s))).mark
        ≡ rounds w h p stops (cells w h) (begun (cells w h) cell s)
    rounds_are_marks =
        omega (arith, rounds_marks (cells w h) (begun (cells w h) cell s) start_holds start_sized, begun_none w h cell p.ground s z r.cart_on)
