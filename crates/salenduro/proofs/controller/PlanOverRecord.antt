-- Plan over a record: what load read is accepted, there is room for every plot, and what the core leaves is written.
-- Assumes nothing.
use Rattle.std.specs.Prelude.{Ok}
use mathlib.Core.Path.{◌≡◌, refl, sym, ap, ◌∙◌}
use mathlib.Core.Bool.{false}
use mathlib.Core.List.{List, ◌++◌}
use Prim.Native.Nat.{ℕ, ◌≤◌, ◌<◌}
use native.Mathlib.Omega.{arith}
use borrow.Author.Tests.{le-ltb}
use lib.ListN.{length, length-replicate}
use Rattle.model.specs.Plot.{max_cells}
use Rattle.model.specs.Lent.{Lent, Scratch, fronted, buffers_of, scratch_buffers}
use Rattle.model.specs.Head.{cells_of}
use Rattle.model.specs.Numbers.{outcome_verdict, plan_answer}
use Rattle.model.specs.Refusals.{any_short}
use Rattle.model.specs.Record.{record_of, head_of}
use Rattle.model.specs.Store.{save_check}
use Rattle.model.specs.Plan.{AfterPlan, after_plan, plan_check, planned}
use Rattle.model.specs.Controller.{own_scratch, AfterC, after_c, state_in, planned_c}
use Rattle.model.specs.declared.Head.{Head}
use Rattle.model.specs.declared.Planned.{Planned}
use Rattle.model.specs.declared.Outcome.{Outcome}
use Rattle.model.specs.Fit.{Held}
use Rattle.model.proofs.Calls.Soundness.{fit_sound}
use Rattle.model.proofs.Calls.Acceptance.{not_both, lent_room, on_both, check_all, fits_all}
use Rattle.model.proofs.Calls.PlanKeeps.{plan_keeps}
use Rattle.model.proofs.Calls.PlanAnswers.{refused_exactly}
use Rattle.model.proofs.Record.ControllerLaws.{plan_on_record}
use Rattle.replan.specs.Passed.{Passed}
use Rattle.salenduro.proofs.controller.RecordRead.{Read}
use Rattle.salenduro.proofs.controller.RecordRewritten.{record_done, may_write, all_written}

-- scratch of 4,096 entries each has room for every plot
own_scratch_law : (n : ℕ) (p : Lent) → n ≤ max_cells → any_short n (buffers_of p) ≡ false → any_short n (scratch_buffers own_scratch ++ buffers_of p) ≡ false
own_scratch_law n p l e = rw (le-ltb (length own_scratch.mark) n (omega (arith, length-replicate {A = ℕ} max_cells 0)), e)

module _ (bytes : List ℕ) where
  module _ {head : Head} {p : Lent} (r : Read bytes head p) where
    plan_accepted : plan_check head p own_scratch ≡ Ok tt
    unfolding plan_check
    plan_accepted =
        let a = r.held in
        check_all head p _ _
        (fits_all head.width head.height _ _ a.placed.sides
        (own_scratch_law (cells_of head) p a.placed.few (lent_room (cells_of head) p a.room))
        (on_both head.width head.height head.goal head.cell a.placed.goal_on a.placed.cart_on))
        (fit_sound head p a.fit)

    pub plan_passed : Passed head p own_scratch
    plan_passed = record { accepted = plan_accepted }

    module _ {done : Planned} {q : Lent} {s : Scratch} (d : after_plan done q s ≡ planned head p own_scratch) where
      plan_held : Held head q
      plan_held = rw (ap (λ (a : AfterPlan). a.lists) d) ((plan_keeps head p own_scratch).held r.held)

      outcomes : done.outcome ≡ (planned head p own_scratch).answer.outcome
      outcomes = ap (λ (a : AfterPlan). a.answer.outcome) d

      pub plan_writes : save_check head q bytes ≡ Ok tt
      plan_writes = may_write head q bytes plan_held r.long

      -- the core refuses nothing
      plan_taken : outcome_verdict (planned head p own_scratch).answer.outcome ≡ Ok tt
      plan_taken = go _ refl
        where
          go : (o : Outcome) → (planned head p own_scratch).answer.outcome ≡ o → outcome_verdict o ≡ Ok tt
          go (Outcome.Route len) e = refl
          go Outcome.NoWay e = refl
          go Outcome.Arrived e = refl
          go (Outcome.Refused why) e = absurd (not_both ((refused_exactly head p own_scratch why).0 e) plan_accepted)

      -- its number is a small one
      pub plan_small : plan_answer done.outcome < 70000
      unfolding planned_c
      plan_small =
          let t = planned (head_of bytes) (state_in bytes) own_scratch in
          let o = t.answer.outcome in
          let same : done.outcome ≡ o = rw (← r.states, ← r.heads) outcomes in
          let taken : outcome_verdict o ≡ Ok tt = rw (← r.states, ← r.heads) plan_taken in
          let is = record_done bytes (outcome_verdict o) (plan_answer o) t.answer.head t.lists r.accepted taken in
          rw (same, ap (λ (a : AfterC). a.answer) is) ((plan_on_record bytes).done r.accepted taken)

      pub plan_done : {bytes' : List ℕ} {answer : ℕ} → bytes' ≡ fronted (record_of head q) bytes → answer ≡ plan_answer done.outcome
          → after_c answer bytes' ≡ planned_c bytes
      unfolding planned_c
      plan_done w e =
          let same : done.head ≡ head = ap (λ (a : AfterPlan). a.answer.head) d ∙ (plan_keeps head p own_scratch).same_head in
          rw (all_written head q bytes plan_held r.long w, e, ← r.states, ← r.heads, ← d)
          (ap (λ (h : Head). after_c (plan_answer done.outcome) (record_of h q)) (sym same)
          ∙ record_done bytes _ _ _ _ r.accepted (rw outcomes plan_taken))
