-- The calls for a C controller: a refusal leaves every byte, the length stays, and a record stays a record.
-- Assumes nothing.
use Rattle.std.specs.Prelude.{Ok, Err, Result}
use mathlib.Core.Path.{◌≡◌, refl, sym, ap, ◌∙◌}
use mathlib.Core.List.{List}
use Prim.Native.Nat.{ℕ, ◌+◌, ◌<◌}
use native.Mathlib.Omega.{arith}
use lib.ListN.{length}
use Rattle.model.specs.Plot.{max_cells}
use Rattle.model.specs.Lent.{Lent}
use Rattle.model.specs.Head.{cells_of}
use Rattle.model.specs.Numbers.{reason_number, outcome_verdict, step_verdict, refusal, changed_answer, plan_answer, move_answer}
use Rattle.model.specs.Record.{record_length, record_of, head_of}
use Rattle.model.specs.Store.{load_check}
use Rattle.model.specs.Report.{reported}
use Rattle.model.specs.Plan.{planned}
use Rattle.model.specs.Move.{moved}
use Rattle.model.specs.Controller.{own_room, own_scratch, AfterC, after_c, rewritten, on_record, state_in, reported_c, planned_c, moved_c}
use Rattle.model.specs.declared.Head.{Head}
use Rattle.model.specs.declared.Reason.{Reason}
use Rattle.model.specs.Verdict.{Verdict}
use Rattle.model.specs.declared.Outcome.{Outcome}
use Rattle.model.specs.declared.Step.{Step}
use Rattle.model.specs.Fit.{Held}
use Rattle.model.proofs.Calls.Acceptance.{not_both}
use Rattle.model.proofs.Record.RecordFields.{record_long}
use Rattle.model.proofs.Record.RecordLaws.{room_for_law, load_held, load_long, load_accepted}
use Rattle.model.proofs.Calls.ReportsCommute.{report_keeps}
use Rattle.model.proofs.Calls.PlanAnswers.{plan_is_true, Says}
use Rattle.model.proofs.Calls.PlanKeeps.{plan_keeps}
use Rattle.model.proofs.Calls.MoveLaws.{move_keeps}
use Rattle.walks.proofs.Pigeonhole.{fewest_below}
use Rattle.model.proofs.Grid.Geometry.{adj_inside}

-- What a call answers and leaves, in its three cases.
pub data OnRecord (bytes : List ℕ) (verdict : Verdict) (answer : ℕ) (head : Head) (p : Lent) : AfterC → Type 0 where
  unread : {why : Reason} → load_check bytes own_room ≡ Err why
      → OnRecord bytes verdict answer head p (after_c (refusal why) bytes)
  undone : {why : Reason} → load_check bytes own_room ≡ Ok tt → verdict ≡ Err why
      → OnRecord bytes verdict answer head p (after_c answer bytes)
  done : load_check bytes own_room ≡ Ok tt → verdict ≡ Ok tt
      → OnRecord bytes verdict answer head p (after_c answer (record_of head p))

module _ (bytes : List ℕ) (verdict : Verdict) (answer : ℕ) (head : Head) (p : Lent) where
  pub on_record_law : OnRecord bytes verdict answer head p (on_record bytes verdict answer head p)
  unfolding on_record
  on_record_law = go _ _ refl refl
    where
      go : (v v' : Verdict) → load_check bytes own_room ≡ v → verdict ≡ v'
          → OnRecord bytes verdict answer head p (elim v [
            | Ok _ ↦ after_c answer (rewritten v' bytes (record_of head p))
            | Err why ↦ after_c (refusal why) bytes
          ])
      go (Ok _) (Ok _) e f = done e f
      go (Ok _) (Err why) e f = undone e f
      go (Err why) v' e f = unread e

-- WHAT HOLDS of every such call.
pub record RecordCall (bytes : List ℕ) (verdict : Verdict) (after : AfterC) : Type 0 where
  -- "a refusal n is 70,000 + n", and it changes no byte: load's, ..
  pub unread : (why : Reason) → load_check bytes own_room ≡ Err why → (after.answer ≡ 70000 + reason_number why) × (after.bytes ≡ bytes)
  -- .. and then the call's own
  pub undone : (why : Reason) → load_check bytes own_room ≡ Ok tt → verdict ≡ Err why → (after.answer ≡ 70000 + reason_number why)
      × (after.bytes ≡ bytes)
  -- an accepted call answers less
  pub done : load_check bytes own_room ≡ Ok tt → verdict ≡ Ok tt → after.answer < 70000
  -- "rewritten there with the same length"
  pub same_length : length after.bytes ≡ length bytes
  -- a record that load accepts stays one
  pub stays_record : load_check bytes own_room ≡ Ok tt → load_check after.bytes own_room ≡ Ok tt

-- what is asked of a call: its number where it is refused, and where it is accepted a smaller one, and accepted data
record Serves (bytes : List ℕ) (verdict : Verdict) (answer : ℕ) (head : Head) (p : Lent) : Type 0 where
  number : (why : Reason) → verdict ≡ Err why → answer ≡ 70000 + reason_number why
  small : load_check bytes own_room ≡ Ok tt → verdict ≡ Ok tt → answer < 70000
  same_cells : load_check bytes own_room ≡ Ok tt → cells_of head ≡ cells_of (head_of bytes)
  held : load_check bytes own_room ≡ Ok tt → Held head p

record_call : {bytes : List ℕ} {verdict : Verdict} {answer : ℕ} {head : Head} {p : Lent} {after : AfterC} → OnRecord bytes verdict answer head p after
    → Serves bytes verdict answer head p → RecordCall bytes verdict after
record_call (unread {why = other} e) s = record {
  unread = λ why f. let q : other ≡ why = cc in (ap refusal q, refl);
  undone = λ why f. absurd (not_both e f);
  done = λ f. absurd (not_both e f);
  same_length = refl;
  stays_record = λ l. l;
}
record_call (undone e g) s = record {
  unread = λ why f. absurd (not_both f e);
  undone = λ why _ f. (s.number why f, refl);
  done = λ _ f. absurd (not_both g f);
  same_length = refl;
  stays_record = λ l. l;
}
record_call {bytes} {head = head} {p = p} (done e g) s = record {
  unread = λ why f. absurd (not_both f e);
  undone = λ why _ f. absurd (not_both f g);
  done = s.small;
  same_length = record_long head p (s.held e).room ∙ ap record_length (s.same_cells e) ∙ sym (load_long bytes own_room e);
  stays_record = λ _. load_accepted head p (s.held e) own_room (room_for_law (cells_of head) max_cells (s.held e).placed.few);
}

-- The three calls ---------------------------------------------------------------------------------------------------------------

module _ (bytes : List ℕ) where
  state_held : load_check bytes own_room ≡ Ok tt → Held (head_of bytes) (state_in bytes)
  state_held e = load_held bytes own_room e

  pub report_on_record : (c : ℕ) → RecordCall bytes (reported (head_of bytes) (state_in bytes) c).answer.verdict (reported_c bytes c)
  unfolding reported_c
  report_on_record c =
      let k = report_keeps (head_of bytes) (state_in bytes) c in
      record_call (on_record_law bytes _ _ _ _) (record {
        number = λ why e. ap changed_answer e;
        small = λ _ e. rw (ap changed_answer e) (omega arith);
        same_cells = λ _. ap cells_of k.same_head;
        held = λ e. rw k.same_head (k.held (state_held e));
      })

  pub plan_on_record : RecordCall bytes (outcome_verdict (planned (head_of bytes) (state_in bytes) own_scratch).answer.outcome) (planned_c bytes)
  unfolding planned_c
  plan_on_record =
      let k = plan_keeps (head_of bytes) (state_in bytes) own_scratch in
      let o = (planned (head_of bytes) (state_in bytes) own_scratch).answer.outcome in
      record_call (on_record_law bytes _ _ _ _) (record {
        number = λ why. refused o why;
        small = λ e a. length_small (state_held e) o a (plan_is_true (head_of bytes) (state_in bytes) own_scratch);
        same_cells = λ _. ap cells_of k.same_head;
        held = λ e. rw k.same_head (k.held (state_held e));
      })
    where
      refused : (o : Outcome) (why : Reason) → outcome_verdict o ≡ Err why → plan_answer o ≡ 70000 + reason_number why
      refused (Outcome.Route L) why e = absurd (not_both e refl)
      refused Outcome.NoWay why e = absurd (not_both e refl)
      refused Outcome.Arrived why e = absurd (not_both e refl)
      refused (Outcome.Refused other) why e = let q : other ≡ why = cc in ap refusal q

      length_small : Held (head_of bytes) (state_in bytes) → (o : Outcome) → outcome_verdict o ≡ Ok tt
          → Says (head_of bytes) (state_in bytes) own_scratch o → plan_answer o < 70000
      length_small h (Outcome.Route L) e t = omega (arith, fewest_below adj_inside h.placed.cart_on t.2, h.placed.few)
      length_small h Outcome.NoWay e t = omega arith
      length_small h Outcome.Arrived e t = omega arith
      length_small h (Outcome.Refused why) e t = absurd (not_both refl e)

  pub move_on_record : RecordCall bytes (step_verdict (moved (head_of bytes) (state_in bytes)).answer.step) (moved_c bytes)
  unfolding moved_c
  move_on_record =
      let k = move_keeps (head_of bytes) (state_in bytes) in
      let step = (moved (head_of bytes) (state_in bytes)).answer.step in
      let q = k.same_plot in
      record_call (on_record_law bytes _ _ _ _) (record {
        number = λ why. refused _ step why;
        small = λ e a. let h = k.held (state_held e) in cell_small _ step (omega (arith, h.placed.cart_on, h.placed.few)) a;
        same_cells = λ _. rw (q.0, q.1);
        held = λ e. k.held (state_held e);
      })
    where
      refused : (cell : ℕ) (s : Result Step Reason) (why : Reason) → step_verdict s ≡ Err why → move_answer cell s ≡ 70000 + reason_number why
      refused cell (Ok Step.Moved) why e = absurd (not_both e refl)
      refused cell (Ok Step.Arrived) why e = absurd (not_both e refl)
      refused cell (Err other) why e = let q : other ≡ why = cc in ap refusal q

      cell_small : (cell : ℕ) (s : Result Step Reason) → cell < 70000 → step_verdict s ≡ Ok tt → move_answer cell s < 70000
      cell_small cell (Ok Step.Moved) l e = l
      cell_small cell (Ok Step.Arrived) l e = l
      cell_small cell (Err why) l e = absurd (not_both refl e)
