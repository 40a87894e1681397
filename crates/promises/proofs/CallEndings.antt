-- How every call ends: accepted, or refused with the reason that its verdict holds, and then nothing has changed.
-- Assumes nothing.
use Rattle.std.specs.Prelude.{Ok, Err}
use mathlib.Core.Path.{◌≡◌, refl, sym, ap, ◌∙◌}
use mathlib.Core.Bool.{true}
use mathlib.Core.List.{List, [], ◌∷◌}
use Prim.Native.Nat.{ℕ, ◌+◌, ◌<◌}
use native.Mathlib.Omega.{arith}
use borrow.Author.Tests.{lt-ltb, le-ltb}
use Rattle.model.specs.Plot.{max_cells}
use Rattle.model.specs.Lent.{Lent, Scratch, After}
use Rattle.model.specs.Numbers.{reason_number, verdict_number, outcome_verdict, step_verdict}
use Rattle.model.specs.Record.{head_of}
use Rattle.model.specs.Route.{stands}
use Rattle.model.specs.Refusals.{and_then}
use Rattle.model.specs.Layout.{layout_check, laid_out}
use Rattle.model.specs.Report.{report_check, reported}
use Rattle.model.specs.Plan.{AfterPlan, plan_check}
use Rattle.model.specs.Listing.{list_check, listed, list_question}
use Rattle.model.specs.Store.{save_check, saved, load_check, loaded}
use Rattle.model.specs.Controller.{own_room, own_scratch, AfterC, state_in, reported_c, planned_c, moved_c}
use Rattle.model.specs.declared.Head.{Head}
use Rattle.model.specs.declared.Reason.{Reason}
use Rattle.model.specs.Verdict.{Verdict}
use Rattle.model.specs.declared.Moved.{Moved}
use Rattle.model.proofs.Calls.Acceptance.{not_both, held_accepts}
use Rattle.model.proofs.Calls.PlanCases.{Planning, plan_refused, plan_there, plan_none, plan_found, plan_is, pass_plan}
use Rattle.model.proofs.Calls.MoveLaws.{Moving, move_refused, move_there, move_lost, move_went, move_is}
use Rattle.model.proofs.Grid.RouteLaws.{leads_goal}
use Rattle.model.proofs.Record.RecordLaws.{load_held, room_for_law}
use Rattle.model.proofs.Record.ControllerLaws.{RecordCall, report_on_record, plan_on_record, move_on_record}
use Rattle.promises.specs.Asking.{Ask, layout, report, plan, move, list, question, save, load, report_c, plan_c, move_c, Result, result, lent}
use Rattle.promises.specs.Asking.{left, number, number_c, head_in, head_out}
use Rattle.promises.proofs.VerdictRows.{move_check, verdict}

-- what a call answers and leaves, by its verdict
pub data CallEnds (a : Ask) (r : Result a) : Verdict → Type 0 where
  accepts : number a r ≡ 0 → CallEnds a r (Ok tt)
  refuses : {why : Reason} → number a r ≡ reason_number why → left a r ≡ lent a → head_out a r ≡ head_in a → CallEnds a r (Err why)

-- The calls over lent buffers -----------------------------------------------------------------------------------------------------------

layout_ends : (w h start goal : ℕ) (p : Lent) → CallEnds (layout w h start goal p) (laid_out w h start goal p) (layout_check w h start goal p)
unfolding laid_out
layout_ends w h start goal p = go _ refl
  where
    go : (v : Verdict) → layout_check w h start goal p ≡ v → CallEnds (layout w h start goal p) (laid_out w h start goal p) v
    go (Ok _) e = accepts (rw (laid_out, e))
    go (Err why) e = refuses {why = why} (rw (laid_out, e)) (rw (laid_out, e)) (rw (laid_out, e))

report_ends : (head : Head) (p : Lent) (c : ℕ) → CallEnds (report head p c) (reported head p c) (report_check head p c)
unfolding reported
report_ends head p c = go _ refl
  where
    go : (v : Verdict) → report_check head p c ≡ v → CallEnds (report head p c) (reported head p c) v
    go (Ok _) e = accepts (rw (reported, e))
    go (Err why) e = refuses {why = why} (rw (reported, e)) (rw (reported, e)) (rw (reported, e))

plan_ends : (head : Head) (p : Lent) (s : Scratch) {r : AfterPlan} → Planning head p s r → CallEnds (plan head p s) r (plan_check head p s)
plan_ends head p s (plan_refused e) = rw e (refuses refl refl refl)
plan_ends head p s (plan_there a ok d) = rw ok (accepts refl)
plan_ends head p s (plan_none a ok d x) = rw ok (accepts refl)
plan_ends head p s (plan_found a ok d x) = rw ok (accepts refl)

move_ends : (head : Head) (p : Lent) {r : After Moved} → Moving head p r → CallEnds (move head p) r (move_check head p)
move_ends head p (move_refused e) = rw e (refuses refl refl refl)
move_ends head p (move_there a e) =
    let t : stands head p ≡ true = rw e (leads_goal head.width head.height head.goal p.learned p.link _) in
    rw (held_accepts head p a, t) (accepts refl)
move_ends head p (move_lost a d t) = rw (held_accepts head p a, t) (refuses refl refl refl)
move_ends head p (move_went a d t) = rw (held_accepts head p a, t) (accepts refl)

list_ends : (head : Head) (p : Lent) (buffer : List ℕ) → CallEnds (list head p buffer) (listed head p buffer) (list_check head p buffer)
unfolding listed list_question
list_ends head p buffer = go _ refl
  where
    go : (v : Verdict) → list_check head p buffer ≡ v → CallEnds (list head p buffer) (listed head p buffer) v
    go (Ok _) e = accepts (rw (list_question, e))
    go (Err why) e = refuses {why = why} (rw (list_question, e)) (rw (listed, e)) refl

question_ends : (head : Head) (p : Lent) (buffer : List ℕ) → CallEnds (question head p buffer) (list_question head p buffer) (list_check head p buffer)
unfolding list_question
question_ends head p buffer = go _ refl
  where
    go : (v : Verdict) → list_check head p buffer ≡ v → CallEnds (question head p buffer) (list_question head p buffer) v
    go (Ok _) e = accepts (rw (list_question, e))
    go (Err why) e = refuses {why = why} (rw (list_question, e)) refl refl

save_ends : (head : Head) (p : Lent) (buffer : List ℕ) → CallEnds (save head p buffer) (saved head p buffer) (save_check head p buffer)
unfolding saved
save_ends head p buffer = go _ refl
  where
    go : (v : Verdict) → save_check head p buffer ≡ v → CallEnds (save head p buffer) (saved head p buffer) v
    go (Ok _) e = accepts (rw (saved, e))
    go (Err why) e = refuses {why = why} (rw (saved, e)) (rw (saved, e)) (rw (saved, e))

load_ends : (bytes : List ℕ) (p : Lent) → CallEnds (load bytes p) (loaded bytes p) (load_check bytes p)
unfolding loaded
load_ends bytes p = go _ refl
  where
    go : (v : Verdict) → load_check bytes p ≡ v → CallEnds (load bytes p) (loaded bytes p) v
    go (Ok _) e = accepts (rw (loaded, e))
    go (Err why) e = refuses {why = why} (rw (loaded, e)) (rw (loaded, e)) (rw (loaded, e))

-- The calls over a record ---------------------------------------------------------------------------------------------------------------

-- by the verdict: the number, and the bytes that a refusal leaves
record OnC (v : Verdict) (bytes : List ℕ) (r : AfterC) : Type 0 where
  told : number_c r.answer ≡ verdict_number v
  kept : (why : Reason) → v ≡ Err why → r.bytes ≡ bytes

refused_by : (answer n : ℕ) → answer ≡ 70000 + n → number_c answer ≡ n
refused_by answer n e = rw (le-ltb answer 70000 (omega arith)) (omega arith)

accepted_by : (answer : ℕ) → answer < 70000 → number_c answer ≡ 0
accepted_by answer l = rw (lt-ltb answer 70000 l)

on_c : (bytes : List ℕ) (own : Verdict) (r : AfterC) → RecordCall bytes own r → OnC (and_then (load_check bytes own_room) own) bytes r
on_c bytes own r k = go _ refl own refl
  where
    go : (v : Verdict) → load_check bytes own_room ≡ v → (u : Verdict) → own ≡ u → OnC (and_then v u) bytes r
    go (Err why) e u f = let t = k.unread why e in record { told = refused_by _ _ t.0; kept = λ _ _. t.1 }
    go (Ok _) e (Err why) f = let t = k.undone why e f in record { told = refused_by _ _ t.0; kept = λ _ _. t.1 }
    go (Ok _) e (Ok _) f = record { told = accepted_by _ (k.done e f); kept = λ why q. absurd (not_both q refl) }

module _ (bytes : List ℕ) where
  report_c_ends : (c : ℕ) (v : Verdict) → OnC v bytes (reported_c bytes c) → CallEnds (report_c bytes c) (reported_c bytes c) v
  report_c_ends c (Ok _) o = accepts o.told
  report_c_ends c (Err why) o = refuses o.told (ap (λ (l : List ℕ). l ∷ []) (o.kept why refl)) refl

  plan_c_ends : (v : Verdict) → OnC v bytes (planned_c bytes) → CallEnds (plan_c bytes) (planned_c bytes) v
  plan_c_ends (Ok _) o = accepts o.told
  plan_c_ends (Err why) o = refuses o.told (ap (λ (l : List ℕ). l ∷ []) (o.kept why refl)) refl

  move_c_ends : (v : Verdict) → OnC v bytes (moved_c bytes) → CallEnds (move_c bytes) (moved_c bytes) v
  move_c_ends (Ok _) o = accepts o.told
  move_c_ends (Err why) o = refuses o.told (ap (λ (l : List ℕ). l ∷ []) (o.kept why refl)) refl

-- what a call answers as a verdict is what it asked
report_verdict : (head : Head) (p : Lent) (c : ℕ) → (reported head p c).answer.verdict ≡ report_check head p c
unfolding reported
report_verdict head p c = go _ refl
  where
    go : (v : Verdict) → report_check head p c ≡ v → (reported head p c).answer.verdict ≡ v
    go (Ok _) e = rw (reported, e)
    go (Err why) e = rw (reported, e)

move_verdict : (head : Head) (p : Lent) {r : After Moved} → Moving head p r → step_verdict r.answer.step ≡ move_check head p
move_verdict head p (move_refused e) = rw e
move_verdict head p (move_there a e) =
    let t : stands head p ≡ true = rw e (leads_goal head.width head.height head.goal p.learned p.link _) in
    rw (held_accepts head p a, t)
move_verdict head p (move_lost a d t) = rw (held_accepts head p a, t)
move_verdict head p (move_went a d t) = rw (held_accepts head p a, t)

plan_verdict : (head : Head) (p : Lent) (s : Scratch) {r : AfterPlan} → Planning head p s r → outcome_verdict r.answer.outcome ≡ plan_check head p s
plan_verdict head p s (plan_refused e) = sym e
plan_verdict head p s (plan_there a ok d) = sym ok
plan_verdict head p s (plan_none a ok d x) = sym ok
plan_verdict head p s (plan_found a ok d x) = sym ok

-- of a record that load accepts plan refuses nothing
pub plan_own : (bytes : List ℕ) → load_check bytes own_room ≡ Ok tt → plan_check (head_of bytes) (state_in bytes) own_scratch ≡ Ok tt
plan_own bytes e =
    let a = load_held bytes own_room e in
    let r = room_for_law _ max_cells a.placed.few in
    pass_plan (head_of bytes) (state_in bytes) own_scratch a (record { marks = r.grounds; costs = r.learneds; trails = r.links })

then_plan : (bytes : List ℕ) (v own : Verdict) → load_check bytes own_room ≡ v → (v ≡ Ok tt → own ≡ Ok tt) → and_then v own ≡ v
then_plan bytes (Ok _) own e f = f refl
then_plan bytes (Err why) own e f = refl

-- HOW EVERY CALL ENDS.
pub ends : (a : Ask) → CallEnds a (result a) (verdict a)
unfolding verdict
ends (layout w h start goal p) = layout_ends w h start goal p
ends (report head p c) = report_ends head p c
ends (plan head p s) = plan_ends head p s (plan_is head p s)
ends (move head p) = move_ends head p (move_is head p)
ends (list head p buffer) = list_ends head p buffer
ends (question head p buffer) = question_ends head p buffer
ends (save head p buffer) = save_ends head p buffer
ends (load bytes p) = load_ends bytes p
ends (report_c bytes c) =
    report_c_ends bytes c _ (rw (← report_verdict (head_of bytes) (state_in bytes) c) (on_c bytes _ _ (report_on_record bytes c)))
ends (plan_c bytes) =
    let own = plan_verdict (head_of bytes) (state_in bytes) own_scratch (plan_is (head_of bytes) (state_in bytes) own_scratch) in
    plan_c_ends bytes _ (rw (← then_plan bytes (load_check bytes own_room) _ refl (λ e. own ∙ plan_own bytes e)) (on_c bytes _ _ (plan_on_record bytes)))
ends (move_c bytes) =
    move_c_ends bytes _
    (rw (← move_verdict (head_of bytes) (state_in bytes) (move_is (head_of bytes) (state_in bytes))) (on_c bytes _ _ (move_on_record bytes)))
