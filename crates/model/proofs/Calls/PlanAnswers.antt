-- Plan's answer is true, and a true answer is the one given.
-- Assumes nothing.
use Rattle.std.specs.Prelude.{Ok, Err}
use mathlib.Core.Path.{◌≡◌, refl, ap}
use mathlib.Core.Logic.{◌≢◌, ◌↔◌}
use Prim.Native.Nat.{ℕ}
use Rattle.walks.specs.Walk.{stay}
use Rattle.walks.proofs.Walks.{fewest_unique}
use Rattle.model.specs.Lent.{Lent, Scratch}
use Rattle.model.specs.Plan.{AfterPlan, plan_check, planned}
use Rattle.model.specs.Ways.{HasWay, Shortest}
use Rattle.model.specs.declared.Head.{Head}
use Rattle.model.specs.declared.Reason.{Reason}
use Rattle.model.specs.declared.Outcome.{Outcome}
use Rattle.model.proofs.Calls.Acceptance.{not_both}
use Rattle.model.proofs.Search.Lessons.{stopped_fewest, emptied_none}
use Rattle.model.proofs.Calls.PlanCases.{Planning, plan_refused, plan_there, plan_none, plan_found, plan_is}

-- what an answer says of the data
abbrev pub Says : Head → Lent → Scratch → Outcome → Type 0
Says head p s (Outcome.Route L) = (plan_check head p s ≡ Ok tt) × (head.cell ≢ head.goal) × Shortest head p head.cell L
Says head p s Outcome.NoWay = (plan_check head p s ≡ Ok tt) × ((n : ℕ) → ¬ HasWay head p head.cell n)
Says head p s Outcome.Arrived = (plan_check head p s ≡ Ok tt) × (head.cell ≡ head.goal)
Says head p s (Outcome.Refused why) = plan_check head p s ≡ Err why

module _ (head : Head) (p : Lent) (s : Scratch) where
  says : {r : AfterPlan} → Planning head p s r → Says head p s r.answer.outcome
  says (plan_refused e) = e
  says (plan_there a ok e) = (ok, e)
  says (plan_none {t = t} a ok d x) = (ok, emptied_none p t x)
  says (plan_found {c = c} {t = t} a ok d x) = (ok, d, stopped_fewest p a.placed a.room a.fit c t x)

  -- two answers that are both true are the same
  said_once : (a b : Outcome) → Says head p s a → Says head p s b → a ≡ b
  said_once (Outcome.Route L) (Outcome.Route M) x y = ap Outcome.Route (fewest_unique x.2 y.2)
  said_once (Outcome.Route L) Outcome.NoWay x y = absurd (y.1 L x.2.walk)
  said_once (Outcome.Route L) Outcome.Arrived x y = absurd (x.1 y.1)
  said_once (Outcome.Route L) (Outcome.Refused why) x y = absurd (not_both y x.0)
  said_once Outcome.NoWay (Outcome.Route L) x y = absurd (x.1 L y.2.walk)
  said_once Outcome.NoWay Outcome.NoWay x y = refl
  said_once Outcome.NoWay Outcome.Arrived x y = absurd (x.1 0 (rw y.1 stay))
  said_once Outcome.NoWay (Outcome.Refused why) x y = absurd (not_both y x.0)
  said_once Outcome.Arrived (Outcome.Route L) x y = absurd (y.1 x.1)
  said_once Outcome.Arrived Outcome.NoWay x y = absurd (y.1 0 (rw x.1 stay))
  said_once Outcome.Arrived Outcome.Arrived x y = refl
  said_once Outcome.Arrived (Outcome.Refused why) x y = absurd (not_both y x.0)
  said_once (Outcome.Refused why) (Outcome.Route L) x y = absurd (not_both x y.0)
  said_once (Outcome.Refused why) Outcome.NoWay x y = absurd (not_both x y.0)
  said_once (Outcome.Refused why) Outcome.Arrived x y = absurd (not_both x y.0)
  said_once (Outcome.Refused why) (Outcome.Refused why') x y = ap Outcome.Refused (let e : why ≡ why' = cc in e)

  pub plan_is_true : Says head p s (planned head p s).answer.outcome
  plan_is_true = says (plan_is head p s)

  pub true_is_planned : (o : Outcome) → Says head p s o → (planned head p s).answer.outcome ≡ o
  true_is_planned o t = said_once _ o plan_is_true t

  answer_says : (o : Outcome) → (planned head p s).answer.outcome ≡ o → Says head p s o
  answer_says o e = rw e at plan_is_true

  -- On accepted data short of the goal, ROUTE L is answered exactly when L is the fewest steps, ..
  pub route_exactly : plan_check head p s ≡ Ok tt → head.cell ≢ head.goal → (L : ℕ) → ((planned head p s).answer.outcome ≡ Outcome.Route L)
      ↔ Shortest head p head.cell L
  route_exactly ok d L = (λ e. (answer_says (Outcome.Route L) e).2, λ f. true_is_planned (Outcome.Route L) (ok, d, f))

  -- .. NO WAY exactly when there is none, ..
  pub no_way_exactly : plan_check head p s ≡ Ok tt → ((planned head p s).answer.outcome ≡ Outcome.NoWay)
      ↔ ((n : ℕ) → ¬ HasWay head p head.cell n)
  no_way_exactly ok = (λ e. (answer_says Outcome.NoWay e).1, λ f. true_is_planned Outcome.NoWay (ok, f))

  -- .. and ARRIVED exactly on the goal; a REFUSAL exactly when the tests say so.
  pub arrived_exactly : plan_check head p s ≡ Ok tt → ((planned head p s).answer.outcome ≡ Outcome.Arrived) ↔ (head.cell ≡ head.goal)
  arrived_exactly ok = (λ e. (answer_says Outcome.Arrived e).1, λ f. true_is_planned Outcome.Arrived (ok, f))

  pub refused_exactly : (why : Reason) → ((planned head p s).answer.outcome ≡ Outcome.Refused why) ↔ (plan_check head p s ≡ Err why)
  refused_exactly why = (answer_says (Outcome.Refused why), true_is_planned (Outcome.Refused why))
