-- What plan leaves: the route stands, no learned value falls, the data are accepted again, and the count is right.
-- Assumes nothing.
use Rattle.std.specs.Prelude.{Ok}
use mathlib.Core.Path.{◌≡◌, refl, ◌∙◌}
use mathlib.Core.Logic.{◌≢◌}
use mathlib.Core.Bool.{true}
use Prim.Native.Nat.{ℕ, ◌≤◌}
use native.Mathlib.Omega.{arith}
use lib.ListN.{get_or}
use Rattle.walks.proofs.Routes.{route_length}
use Rattle.model.specs.Lists.{tally}
use Rattle.model.specs.Plot.{free}
use Rattle.model.specs.Lent.{Lent, Scratch}
use Rattle.model.specs.Head.{cells_of}
use Rattle.model.specs.Route.{stands}
use Rattle.model.specs.Search.{total}
use Rattle.model.specs.Plan.{AfterPlan, answered, improved, plan_check, expanded_count, planned}
use Rattle.model.specs.declared.Head.{Head}
use Rattle.model.specs.declared.Outcome.{Outcome}
use Rattle.model.specs.Fit.{Held}
use Rattle.model.proofs.Calls.Acceptance.{not_both}
use Rattle.model.proofs.Grid.RouteLaws.{route_leads}
use Rattle.model.proofs.Search.Lessons.{goal_halts, stopped_zero, stopped_rises, expanded_free}
use Rattle.model.proofs.Search.Trail.{stopped_route, stopped_fit, stopped_room}
use Rattle.model.proofs.Calls.PlanCases.{Planning, plan_refused, plan_there, plan_none, plan_found, plan_is}

-- no search: the cart has arrived, or the call is refused
abbrev pub Unsearched : Outcome → Type 0
Unsearched (Outcome.Route L) = ⊥
Unsearched Outcome.NoWay = ⊥
Unsearched Outcome.Arrived = Unit {0}
Unsearched (Outcome.Refused why) = Unit {0}

-- whatever plan answers
pub record PlanKeeps (head : Head) (p : Lent) (s : Scratch) (r : AfterPlan) : Type 0 where
  pub same_head : r.answer.head ≡ head
  pub same_ground : r.lists.ground ≡ p.ground
  -- no learned value falls
  pub rises : (x : ℕ) → get_or p.learned x 0 ≤ get_or r.lists.learned x 0
  -- data once accepted are accepted
  pub held : Held head p → Held head r.lists
  -- the count is at most the number of free cells; ..
  pub count_free : r.answer.expanded ≤ tally (cells_of head) (free p.ground)
  -- .. without a search it is 0, and scratch stays; ..
  pub unsearched : Unsearched r.answer.outcome → (r.answer.expanded ≡ 0) × (r.scratch ≡ s)
  -- .. and after one the number of cells marked 2
  pub count_marks : plan_check head p s ≡ Ok tt → head.cell ≢ head.goal → r.answer.expanded ≡ expanded_count (cells_of head) r.scratch.mark
  -- without a route what is lent stays: after "no way", on the goal, and refused
  pub routeless : ((L : ℕ) → r.answer.outcome ≢ Outcome.Route L) → r.lists ≡ p

module _ (head : Head) (p : Lent) (s : Scratch) where
  -- where nothing changes
  unchanged : (o : Outcome) → (plan_check head p s ≡ Ok tt → head.cell ≢ head.goal → ⊥)
      → PlanKeeps head p s (record { answer = answered head 0 o; lists = p; scratch = s })
  unchanged o no-search = record {
    same_head = refl;
    same_ground = refl;
    rises = λ x. omega arith;
    held = λ a. a;
    count_free = omega arith;
    unsearched = λ _. (refl, refl);
    count_marks = λ ok d. absurd (no-search ok d);
    routeless = λ _. refl;
  }

  keeps : {r : AfterPlan} → Planning head p s r → PlanKeeps head p s r
  unfolding improved
  keeps (plan_refused e) = unchanged _ (λ ok _. not_both e ok)
  keeps (plan_there a ok e) = unchanged _ (λ _ d. d e)
  keeps (plan_none {t = t} a ok d x) = record {
    same_head = refl;
    same_ground = refl;
    rises = λ x. omega arith;
    held = λ a. a;
    count_free = expanded_free p _ a.placed a.fit (goal_halts head.width head.height head.goal p) t x.holds x.sized;
    unsearched = λ u. absurd u;
    count_marks = λ _ _. refl;
    routeless = λ _. refl;
  }
  keeps (plan_found {c = c} {t = t} a ok d x) = record {
    same_head = refl;
    same_ground = refl;
    rises = stopped_rises p a.placed a.room a.fit c t x;
    held = λ _. record {
      placed = a.placed;
      room = stopped_room p a.placed a.room a.fit c t x;
      fit = stopped_fit p a.placed a.room a.fit c t x;
    };
    count_free = expanded_free p _ a.placed a.fit (goal_halts head.width head.height head.goal p) t x.holds x.sized;
    unsearched = λ u. absurd u;
    count_marks = λ _ _. refl;
    routeless = λ no-route. absurd (no-route _ refl);
  }

  pub plan_keeps : PlanKeeps head p s (planned head p s)
  plan_keeps = keeps (plan_is head p s)

  -- after Route L the cart's route stands, and its learned distance is L
  stands_after : {r : AfterPlan} → Planning head p s r → (L : ℕ) → r.answer.outcome ≡ Outcome.Route L → (stands head r.lists ≡ true)
      × (get_or r.lists.learned head.cell 0 ≡ L)
  stands_after (plan_refused e) L q = let z : ◌≡◌ {A = ℕ} 0 1 = cc in absurd (omega arith)
  stands_after (plan_there a ok e) L q = let z : ◌≡◌ {A = ℕ} 0 1 = cc in absurd (omega arith)
  stands_after (plan_none a ok d x) L q = let z : ◌≡◌ {A = ℕ} 0 1 = cc in absurd (omega arith)
  stands_after (plan_found {c = c} {t = t} a ok d x) L q =
      let e : total p.learned t.cost c ≡ L = cc in
      let route = stopped_route p a.placed a.room a.fit c t x in
      let z = stopped_zero p a.placed a.room a.fit c t x in
      (route_leads head.width head.height head.goal (improved head.width head.height p c t) z route, route_length z route ∙ e)

  pub route_stands_after : (L : ℕ) → (planned head p s).answer.outcome ≡ Outcome.Route L → (stands head (planned head p s).lists ≡ true)
      × (get_or (planned head p s).lists.learned head.cell 0 ≡ L)
  route_stands_after L q = stands_after (plan_is head p s) L q
