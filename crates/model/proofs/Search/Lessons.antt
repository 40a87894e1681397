-- What plan learns after a stop: the length is the fewest steps, values never fall, stay consistent and below N.
-- Assumes nothing.
use mathlib.Core.Path.{◌≡◌, refl, sym, ◌∙◌}
use mathlib.Core.Logic.{◌≢◌}
use mathlib.Core.Bool.{Bool, true}
use mathlib.Core.List.{List}
use Prim.Native.Nat.{ℕ, zero, suc, ◌-◌, ◌≤◌, ◌<◌}
use native.Mathlib.Decide.{dec_lt}
use native.Mathlib.Omega.{arith}
use borrow.Author.Tests.{eqb-true, ne_eqb}
use lib.ListN.{length, get_or}
use Rattle.walks.specs.Walk.{Walk, Fewest, Consistent}
use Rattle.walks.specs.Search.{Learns}
use Rattle.walks.proofs.Pigeonhole.{fewest_below}
use Rattle.walks.proofs.LearnedValues.{length_bounds, rises, stays_consistent, goal_stays, learned_bounded}
use Rattle.walks.proofs.Routes.{route_walk}
use Rattle.walks.proofs.Searches.{stop_fewest, no_way}
use Rattle.model.specs.Lists.{tally}
use Rattle.model.specs.Plot.{cells, free}
use Rattle.model.specs.Lent.{Lent, Scratch}
use Rattle.model.specs.Route.{leads_from}
use Rattle.model.specs.Search.{total}
use Rattle.model.specs.Plan.{is_expanded, expanded_count, lesson, improved}
use Rattle.model.specs.Ways.{Adj}
use Rattle.model.proofs.Lists.Filled.{tally_mono, filled_above, filled_at}
use Rattle.model.proofs.Grid.Geometry.{adj_inside}
use Rattle.model.specs.Fit.{Fit, Sized, Room, Placed}
use Rattle.model.proofs.Calls.Soundness.{fit_consistent}
use Rattle.model.proofs.Grid.Views.{at, mark_in, view, mark_on, seen_inside}
use Rattle.model.proofs.Grid.RouteLaws.{RouteOn, leads_goal, leads_stands, link_adj}
use Rattle.model.proofs.Search.SearchInvariant.{Holds, Stopped, Emptied, seen_free}

-- plan's stop test halts at the goal
pub goal_halts : (w h goal : ℕ) (p : Lent) → leads_from w h goal p goal ≡ true
goal_halts w h goal p = leads_goal w h goal p.learned p.link (get_or p.learned goal 0)

-- the learned values after a stop at t
abbrev pub learned_after : (w h : ℕ) → Lent → (t : ℕ) → Scratch → List ℕ
learned_after w h p t s = (improved w h p t s).learned

module _ (v : ℕ) (learned mark cost : List ℕ) (x : ℕ) where
  pub lesson_yes : get_or mark x 0 ≡ 2 → lesson v learned mark cost x ≡ v - get_or cost x 0
  unfolding lesson
  lesson_yes e = rw e

  -- unseen and waiting cells keep what they have
  pub lesson_no : get_or mark x 0 ≢ 2 → lesson v learned mark cost x ≡ get_or learned x 0
  unfolding lesson
  lesson_no n = go (get_or mark x 0) refl n
    where
      go : (m : ℕ) → get_or mark x 0 ≡ m → m ≢ 2 → lesson v learned mark cost x ≡ get_or learned x 0
      go zero e d = rw e
      go (suc zero) e d = rw e
      go (suc (suc zero)) e d = absurd (d refl)
      go (suc (suc (suc m))) e d = rw (ne_eqb (get_or mark x 0) 2 n)

-- learning over lists is the theory's
learns : (w h : ℕ) (p : Lent) (t : ℕ) (s : Scratch) → cells w h ≤ length p.learned
    → Learns (view (cells w h) s) (at p.learned) (at (learned_after w h p t s)) t
unfolding improved
learns w h p t s r = record {
  raised = λ x e.
      let i = seen_inside (cells w h) s.mark x (omega arith) in
      filled_at (cells w h) _ p.learned r x i ∙ lesson_yes _ p.learned s.mark s.cost x (sym (mark_on (cells w h) s.mark x i) ∙ e);
  held = λ x n. go x n (dec_lt x (cells w h));
}
  where
    go : (x : ℕ) → mark_in (cells w h) s.mark x ≢ 2 → Dec (x < cells w h) → at (learned_after w h p t s) x ≡ at p.learned x
    go x n (yes i) =
        filled_at (cells w h) _ p.learned r x i ∙ lesson_no _ p.learned s.mark s.cost x (λ e. n (mark_on (cells w h) s.mark x i ∙ e))
    go x n (no i) = filled_above (cells w h) _ p.learned x 0 (omega arith)

-- THE STOP ------------------------------------------------------------------------------------------------------------------------

module _ {w h goal cell : ℕ} (p : Lent) (r : Placed w h goal cell) (m : Room (cells w h) p) (f : Fit w h goal cell p)
    (t : ℕ) (s : Scratch) (e : Stopped w h cell p (leads_from w h goal p) t s) where
  pub route_at_stop : RouteOn w h goal p t (at p.learned t)
  route_at_stop = leads_stands p f t e.inside e.halted

  pub lessons : Learns (view (cells w h) s) (at p.learned) (at (learned_after w h p t s)) t
  lessons = learns w h p t s m.learneds

  -- the length stated is the fewest steps ..
  pub stopped_fewest : Fewest (Adj w h p.ground) cell goal (total p.learned s.cost t)
  stopped_fewest =
      stop_fewest e.holds (fit_consistent f) f.zero_there (goal_halts w h goal p) e.pick
      (route_walk {Adj = Adj w h p.ground} (link_adj w h p.ground p.link) route_at_stop)

  -- .. and is below N, so that every new learned value fits where the old ones did
  pub stopped_below : total p.learned s.cost t < cells w h
  stopped_below = fewest_below adj_inside r.cart_on stopped_fewest

  -- no expanded cell costs more than the length: the update's minus is never cut off at 0
  pub cost_within : (x : ℕ) → mark_in (cells w h) s.mark x ≡ 2 → at s.cost x ≤ total p.learned s.cost t
  cost_within x k = omega (arith, length_bounds e.holds e.pick lessons k)

  pub stopped_zero : at (learned_after w h p t s) goal ≡ 0
  stopped_zero = goal_stays e.holds e.pick lessons (goal_halts w h goal p) ∙ f.zero_there

  pub stopped_rises : (x : ℕ) → at p.learned x ≤ at (learned_after w h p t s) x
  stopped_rises = rises e.holds e.pick lessons

  pub stopped_consistent : Consistent (Adj w h p.ground) (at (learned_after w h p t s))
  stopped_consistent = stays_consistent e.holds e.pick lessons (fit_consistent f)

  pub stopped_small : (x : ℕ) → x < cells w h → at (learned_after w h p t s) x < cells w h
  stopped_small x i =
      let n = stopped_below in
      let b = learned_bounded e.holds e.pick lessons {k = cells w h - 1} (omega arith) x (omega (arith, f.learned x i)) in
      omega arith

-- NO WAY --------------------------------------------------------------------------------------------------------------------------

pub emptied_none : {w h goal cell : ℕ} (p : Lent) (s : Scratch) → Emptied w h cell p (leads_from w h goal p) s → (n : ℕ)
    → ¬ Walk (Adj w h p.ground) cell goal n
emptied_none {w} {h} {goal} p s e = no_way e.holds (goal_halts w h goal p) e.none_waits

-- THE COUNT: no more cells are expanded than are free.
pub expanded_free : {w h goal cell : ℕ} (p : Lent) (stops : ℕ → Bool) (r : Placed w h goal cell) (f : Fit w h goal cell p) (halts : stops goal ≡ true)
    (s : Scratch) → Holds w h cell p stops s → Sized (cells w h) s
    → expanded_count (cells w h) s.mark ≤ tally (cells w h) (free p.ground)
unfolding expanded_count
expanded_free {w} {h} p stops r f halts s I z =
    tally_mono (cells w h) (is_expanded s.mark) (free p.ground) (λ x i e.
    seen_free p stops r f halts s I z x (omega (arith, mark_on (cells w h) s.mark x i, eqb-true (get_or s.mark x 0) 2 e)))
