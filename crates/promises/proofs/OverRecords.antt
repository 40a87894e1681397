-- The demands of a C controller's calls: what report, plan and move over a record answer where load accepts it, and that a
-- record stays one. Assumes nothing.
use Rattle.std.specs.Prelude.{Ok, Result}
use mathlib.Core.Path.{◌≡◌, refl, sym, ap, ◌∙◌}
use mathlib.Core.Logic.{◌≢◌, ◌↔◌}
use mathlib.Core.Bool.{true}
use mathlib.Core.List.{List, [], ◌∷◌}
use Prim.Native.Nat.{ℕ, ◌<◌}
use native.Mathlib.Omega.{arith}
use Rattle.walks.specs.Walk.{Walk, stay, step}
use Rattle.walks.proofs.Pigeonhole.{fewest_below}
use Rattle.model.specs.Lent.{Lent}
use Rattle.model.specs.Numbers.{outcome_verdict, step_verdict, changed_answer, plan_answer, move_answer}
use Rattle.model.specs.Route.{stands}
use Rattle.model.specs.Record.{record_of, head_of}
use Rattle.model.specs.Store.{load_check}
use Rattle.model.specs.Report.{reported}
use Rattle.model.specs.Plan.{planned}
use Rattle.model.specs.Move.{moved}
use Rattle.model.specs.Controller.{own_room, own_scratch, AfterC, after_c, on_record, state_in, reported_c, planned_c, moved_c}
use Rattle.model.specs.Ways.{Adj, HasWay, Shortest}
use Rattle.model.specs.declared.Head.{Head}
use Rattle.model.specs.Verdict.{Verdict}
use Rattle.model.specs.declared.Outcome.{Outcome}
use Rattle.model.specs.declared.Reason.{Reason}
use Rattle.model.specs.declared.Step.{Step}
use Rattle.model.proofs.Grid.Geometry.{adj_inside}
use Rattle.model.proofs.Calls.Acceptance.{not_both, held_accepts}
use Rattle.model.proofs.Calls.PlanAnswers.{Says, plan_is_true, true_is_planned}
use Rattle.model.proofs.Calls.MoveLaws.{Nearer, move_comes_nearer, standing_route_moves}
use Rattle.model.proofs.Record.RecordLaws.{load_held}
use Rattle.model.proofs.Record.ControllerLaws.{report_on_record, plan_on_record, move_on_record}
use Rattle.promises.proofs.CallEndings.{plan_own}

module _ (bytes : List ℕ) (ok : load_check bytes own_room ≡ Ok tt) where
  -- what a call leaves is the record of its state
  rewritten_as : (verdict : Verdict) (answer : ℕ) (head : Head) (p : Lent) → verdict ≡ Ok tt
      → on_record bytes verdict answer head p ≡ after_c answer (record_of head p)
  unfolding on_record
  rewritten_as verdict answer head p e = rw (on_record, ok, e)

  pub report_rewrites : (c : ℕ) → let r =
      reported (head_of bytes) (state_in bytes) c in r.answer.verdict ≡ Ok tt
      → reported_c bytes c ≡ after_c 0 (record_of r.answer.head r.lists)
  unfolding reported_c
  report_rewrites c e =
      let r = reported (head_of bytes) (state_in bytes) c in
      rewritten_as r.answer.verdict (changed_answer r.answer.verdict) r.answer.head r.lists e
      ∙ ap (λ (v : Verdict). after_c (changed_answer v) (record_of r.answer.head r.lists)) e

  plan_says : Says (head_of bytes) (state_in bytes) own_scratch (planned (head_of bytes) (state_in bytes) own_scratch).answer.outcome
  plan_says = plan_is_true (head_of bytes) (state_in bytes) own_scratch

  taken : (o : Outcome) → Says (head_of bytes) (state_in bytes) own_scratch o → outcome_verdict o ≡ Ok tt
  taken (Outcome.Route L) x = refl
  taken Outcome.NoWay x = refl
  taken Outcome.Arrived x = refl
  taken (Outcome.Refused why) x = absurd (not_both x (plan_own bytes ok))

  pub plan_rewrites : let r =
      planned (head_of bytes) (state_in bytes) own_scratch in
      planned_c bytes ≡ after_c (plan_answer r.answer.outcome) (record_of r.answer.head r.lists)
  unfolding planned_c
  plan_rewrites =
      let r = planned (head_of bytes) (state_in bytes) own_scratch in
      rewritten_as (outcome_verdict r.answer.outcome) (plan_answer r.answer.outcome) r.answer.head r.lists
      (taken r.answer.outcome plan_says)

  pub move_rewrites : let r =
      moved (head_of bytes) (state_in bytes) in r.answer.step ≡ Ok Step.Moved
      → moved_c bytes ≡ after_c r.answer.head.cell (record_of r.answer.head r.lists)
  unfolding moved_c
  move_rewrites e =
      let r = moved (head_of bytes) (state_in bytes) in
      let cell = r.answer.head.cell in
      rewritten_as (step_verdict r.answer.step) (move_answer cell r.answer.step) r.answer.head r.lists (ap step_verdict e)
      ∙ ap (λ (s : Result Step Reason). after_c (move_answer cell s) (record_of r.answer.head r.lists)) e

  -- Numbers -----------------------------------------------------------------------------------------------------------------------------

  plan_answer_law : (planned_c bytes).answer ≡ plan_answer (planned (head_of bytes) (state_in bytes) own_scratch).answer.outcome
  plan_answer_law = ap (λ (a : AfterC). a.answer) plan_rewrites

  -- no length is 65,535, and none is 0 short of the goal
  short : (L : ℕ) → Shortest (head_of bytes) (state_in bytes) (head_of bytes).cell L → L < 4096
  short L f = let h = load_held bytes own_room ok in omega (arith, fewest_below adj_inside h.placed.cart_on f, h.placed.few)

  some : (L : ℕ) → Shortest (head_of bytes) (state_in bytes) (head_of bytes).cell L → (head_of bytes).cell ≢ (head_of bytes).goal → L ≢ 0
  some L f d e = d (none_left (rw e at f.walk) refl)
    where
      none_left : {x y n : ℕ} → Walk (Adj (head_of bytes).width (head_of bytes).height (state_in bytes).ground) x y n → n ≡ 0 → x ≡ y
      none_left stay e = refl
      none_left (step a w) e = absurd (omega arith)

  told : (o : Outcome) → Says (head_of bytes) (state_in bytes) own_scratch o → (planned_c bytes).answer ≡ plan_answer o
  told o x = plan_answer_law ∙ ap plan_answer (true_is_planned (head_of bytes) (state_in bytes) own_scratch o x)

  said : {n : ℕ} → (planned_c bytes).answer ≡ n → (o : Outcome) × Says (head_of bytes) (state_in bytes) own_scratch o × (plan_answer o ≡ n)
  said e = ((planned (head_of bytes) (state_in bytes) own_scratch).answer.outcome, plan_says, sym plan_answer_law ∙ e)

  -- "plan gives the length (0 arrived) or 65,535 for no way": each number exactly when it is so
  pub plan_gives_no_way : ((planned_c bytes).answer ≡ 65535) ↔ ((n : ℕ) → ¬ HasWay (head_of bytes) (state_in bytes) (head_of bytes).cell n)
  plan_gives_no_way = (λ e. go (said e), λ f. told Outcome.NoWay (plan_own bytes ok, f))
    where
      go : (o : Outcome) × Says (head_of bytes) (state_in bytes) own_scratch o × (plan_answer o ≡ 65535) → (n : ℕ)
          → ¬ HasWay (head_of bytes) (state_in bytes) (head_of bytes).cell n
      go (Outcome.Route L, x, q) = absurd (omega (arith, short L x.2))
      go (Outcome.NoWay, x, q) = x.1
      go (Outcome.Arrived, x, q) = absurd (omega arith)
      go (Outcome.Refused why, x, q) = absurd (not_both x (plan_own bytes ok))

  pub plan_gives_length : (head_of bytes).cell ≢ (head_of bytes).goal → (L : ℕ) → L ≢ 65535 → ((planned_c bytes).answer ≡ L)
      ↔ Shortest (head_of bytes) (state_in bytes) (head_of bytes).cell L
  plan_gives_length d L other = (λ e. go (said e), λ f. told (Outcome.Route L) (plan_own bytes ok, d, f))
    where
      go : (o : Outcome) × Says (head_of bytes) (state_in bytes) own_scratch o × (plan_answer o ≡ L)
          → Shortest (head_of bytes) (state_in bytes) (head_of bytes).cell L
      go (Outcome.Route M, x, q) = rw (← q) x.2
      go (Outcome.NoWay, x, q) = absurd (other (sym q))
      go (Outcome.Arrived, x, q) = absurd (d x.1)
      go (Outcome.Refused why, x, q) = absurd (not_both x (plan_own bytes ok))

  pub plan_gives_arrived : ((planned_c bytes).answer ≡ 0) ↔ ((head_of bytes).cell ≡ (head_of bytes).goal)
  plan_gives_arrived = (λ e. go (said e), λ f. told Outcome.Arrived (plan_own bytes ok, f))
    where
      go : (o : Outcome) × Says (head_of bytes) (state_in bytes) own_scratch o × (plan_answer o ≡ 0) → (head_of bytes).cell ≡ (head_of bytes).goal
      go (Outcome.Route M, x, q) = absurd (some M x.2 x.1 q)
      go (Outcome.NoWay, x, q) = absurd (omega arith)
      go (Outcome.Arrived, x, q) = x.1
      go (Outcome.Refused why, x, q) = absurd (not_both x (plan_own bytes ok))

  -- "move gives the cell the cart is then on", one step nearer
  pub move_gives_cell : stands (head_of bytes) (state_in bytes) ≡ true → (head_of bytes).cell ≢ (head_of bytes).goal
      → let r = moved (head_of bytes) (state_in bytes) in ((moved_c bytes).answer ≡ r.answer.head.cell) × Nearer (head_of bytes) (state_in bytes) r
  move_gives_cell t d =
      let e = standing_route_moves (head_of bytes) (state_in bytes) (held_accepts (head_of bytes) (state_in bytes) (load_held bytes own_room ok)) t d in
      (ap (λ (a : AfterC). a.answer) (move_rewrites e), move_comes_nearer (head_of bytes) (state_in bytes) e)

-- Any calls, in any order -----------------------------------------------------------------------------------------------------------------

pub data CallC : Type 0 where
  report : (c : ℕ) → CallC
  plan : CallC
  move : CallC

abbrev pub next_c : (bytes : List ℕ) → CallC → List ℕ
next_c bytes (report c) = (reported_c bytes c).bytes
next_c bytes plan = (planned_c bytes).bytes
next_c bytes move = (moved_c bytes).bytes

unfoldable pub after_all_c : (bytes : List ℕ) → List CallC → List ℕ
after_all_c bytes [] = bytes
after_all_c bytes (call ∷ calls) = after_all_c (next_c bytes call) calls

-- "Data once accepted are never found unfit after any accepted reports, plans and moves, in any order": nor is a record
pub record_never_unfit : (calls : List CallC) (bytes : List ℕ) → load_check bytes own_room ≡ Ok tt
    → load_check (after_all_c bytes calls) own_room ≡ Ok tt
unfolding after_all_c
record_never_unfit [] bytes ok = ok
record_never_unfit (call ∷ calls) bytes ok = record_never_unfit calls (next_c bytes call) (stays call)
  where
    stays : (call : CallC) → load_check (next_c bytes call) own_room ≡ Ok tt
    stays (report c) = (report_on_record bytes c).stays_record ok
    stays plan = (plan_on_record bytes).stays_record ok
    stays move = (move_on_record bytes).stays_record ok
