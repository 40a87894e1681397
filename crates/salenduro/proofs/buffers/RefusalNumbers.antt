-- When a host is given a refusal's number: 70,002 where its head array is short, and otherwise exactly what the call refuses
-- with (whose rows are `refused_exactly` of crate promises). Assumes nothing.
use Rattle.std.specs.Prelude.{Ok, Err}
use mathlib.Core.Path.{◌≡◌, refl, ap}
use mathlib.Core.Logic.{◌↔◌}
use mathlib.Core.Bool.{Bool, true, false, cond}
use mathlib.Core.List.{List}
use Prim.Native.Nat.{ℕ, ◌<◌}
use native.Mathlib.Omega.{arith}
use lib.ListN.{length}
use Rattle.model.specs.Lent.{Lent, Scratch, After}
use Rattle.model.specs.Refusals.{too_short}
use Rattle.model.specs.Numbers.{reason_number, verdict_number, outcome_verdict, step_verdict, length_verdict, refusal, changed_answer, plan_answer}
use Rattle.model.specs.Numbers.{move_answer, given_number}
use Rattle.model.specs.Layout.{laid_out}
use Rattle.model.specs.Report.{reported}
use Rattle.model.specs.Plan.{AfterPlan, planned}
use Rattle.model.specs.Move.{moved}
use Rattle.model.specs.Listing.{list_check, listed, list_question}
use Rattle.model.specs.Store.{AfterSave, saved, loaded}
use Rattle.model.specs.declared.Reason.{Reason}
use Rattle.model.specs.declared.Reason.TheVariants.{Short}
use Rattle.model.specs.Verdict.{Verdict}
use Rattle.model.specs.declared.Moved.{Moved}
use Rattle.model.proofs.Calls.Acceptance.{not_both}
use Rattle.model.proofs.Calls.ReasonNumbers.{refused_number}
use Rattle.model.proofs.Calls.PlanCases.{Planning, plan_refused, plan_there, plan_none, plan_found, plan_is}
use Rattle.model.proofs.Calls.MoveLaws.{Moving, move_refused, move_there, move_lost, move_went, move_is, moved_held}
use Rattle.model.proofs.Calls.ListLaws.{list_writes}
use Rattle.model.proofs.Record.SaveAndLoad.{Saving, save_refused, save_wrote, save_is}
use Rattle.salenduro.specs.Heads.{head_size, head_in}
use Rattle.salenduro.specs.Buffers.{unless_short, AfterHost, AfterHostPlan, AfterHostFill, list_answer, laid_out_host, reported_host, planned_host}
use Rattle.salenduro.specs.Buffers.{moved_host, listed_host, question_host, saved_host, loaded_host}
use Rattle.salenduro.proofs.AnswersFit.{route_few, list_few}

-- the answer is 70,000 + a reason's number exactly when that is the verdict, and below 70,000 where there is none
abbrev pub Tells : (answer : ℕ) → Verdict → Type 0
Tells answer v = ((why : Reason) → (answer ≡ refusal why) ↔ (v ≡ Err why)) × (v ≡ Ok tt → answer < 70000)

accepted : {n : ℕ} → n < 70000 → Tells n (Ok tt)
accepted l = (λ why. (λ e. absurd (omega (arith, l, e)), λ e. absurd (not_both e refl)), λ _. l)

refused : (why : Reason) → Tells (refusal why) (Err why)
refused why = (
  λ other. (λ e. (refused_number (Err why) other).0 (omega (arith, e)), λ e. omega (arith, (refused_number (Err why) other).1 e)),
  λ e. absurd (not_both refl e),
)

changed : (v : Verdict) → Tells (changed_answer v) v
changed (Ok _) = accepted (omega arith)
changed (Err why) = refused why

-- a short head array first
first : {A : Type 0} (answer : A → ℕ) (head : List ℕ) (x y : A) {v : Verdict} → Tells (answer x) (Err Short) → Tells (answer y) v
    → Tells (answer (unless_short head x y)) (unless_short head (Err Short) v)
first answer head x y {v} s t = go (too_short head_size head)
  where
    go : (b : Bool) → Tells (answer (cond b x y)) (cond b (Err Short) v)
    go true = s
    go false = t

module _ (head : List ℕ) (p : Lent) where
  pub layout_tells : (w h start goal : ℕ)
      → Tells (laid_out_host w h start goal head p).answer (unless_short head (Err Short) (laid_out w h start goal p).answer.verdict)
  unfolding laid_out_host
  layout_tells w h start goal = first (λ (a : AfterHost). a.answer) head _ _ (refused Short) (changed _)

  pub load_tells : (bytes : List ℕ) → Tells (loaded_host bytes head p).answer (unless_short head (Err Short) (loaded bytes p).answer.verdict)
  unfolding loaded_host
  load_tells bytes = first (λ (a : AfterHost). a.answer) head _ _ (refused Short) (changed _)

  pub report_tells : (c : ℕ) → Tells (reported_host head p c).answer (unless_short head (Err Short) (reported (head_in head) p c).answer.verdict)
  unfolding reported_host
  report_tells c = first (λ (a : AfterHost). a.answer) head _ _ (refused Short) (changed _)

  pub move_tells : Tells (moved_host head p).answer (unless_short head (Err Short) (step_verdict (moved (head_in head) p).answer.step))
  unfolding moved_host
  move_tells = first (λ (a : AfterHost). a.answer) head _ _ (refused Short) (go (move_is (head_in head) p))
    where
      go : {r : After Moved} → Moving (head_in head) p r → Tells (move_answer r.answer.head.cell r.answer.step) (step_verdict r.answer.step)
      go (move_refused {why = why} e) = refused why
      go (move_lost a d t) = refused _
      go (move_there a e) = accepted (omega (arith, a.placed.cart_on, a.placed.few))
      go (move_went a d t) = let k = moved_held (head_in head) p a d t in accepted (omega (arith, k.placed.cart_on, k.placed.few))

  pub plan_tells : (s : Scratch)
      → Tells (planned_host head p s).answer (unless_short head (Err Short) (outcome_verdict (planned (head_in head) p s).answer.outcome))
  unfolding planned_host
  plan_tells s = first (λ (a : AfterHostPlan). a.answer) head _ _ (refused Short) (go (plan_is (head_in head) p s) refl)
    where
      go : {r : AfterPlan} → Planning (head_in head) p s r → planned (head_in head) p s ≡ r
          → Tells (plan_answer r.answer.outcome) (outcome_verdict r.answer.outcome)
      go (plan_refused {why = why} e) q = refused why
      go (plan_there a ok e) q = accepted (omega arith)
      go (plan_none a ok d x) q = accepted (omega arith)
      go (plan_found a ok d x) q = accepted (omega (arith, route_few (head_in head) p s _ (ap (λ (r : AfterPlan). r.answer.outcome) q)))

  pub save_tells : (bytes : List ℕ)
      → Tells (saved_host head p bytes).answer (unless_short head (Err Short) (length_verdict (saved (head_in head) p bytes).answer.length))
  unfolding saved_host
  save_tells bytes = first (λ (a : AfterHostFill). a.answer) head _ _ (refused Short) (go (save_is (head_in head) p bytes))
    where
      go : {r : AfterSave} → Saving (head_in head) p bytes r → Tells (given_number r.answer.length) (length_verdict r.answer.length)
      go (save_refused {why = why} e) = refused why
      go (save_wrote a w) = accepted (omega (arith, a.placed.few))

  pub list_tells : (buffer : List ℕ) → Tells (listed_host head p buffer).answer (unless_short head (Err Short) (list_check (head_in head) p buffer))
  unfolding listed_host
  list_tells buffer = first (λ (a : AfterHostFill). a.answer) head _ _ (refused Short) (go _ refl)
    where
      go : (v : Verdict) → list_check (head_in head) p buffer ≡ v → Tells (list_answer v (length (listed (head_in head) p buffer).front)) v
      go (Ok _) e = accepted (omega (arith, (list_writes (head_in head) p buffer e).long, list_few (head_in head) p buffer e))
      go (Err why) e = refused why

  -- the question's number is the reason's own
  pub question_tells : (buffer : List ℕ)
      → question_host head p buffer ≡ verdict_number (unless_short head (Err Short) (list_check (head_in head) p buffer))
  unfolding question_host list_question
  question_tells buffer = go (too_short head_size head)
    where
      go : (b : Bool) → cond b (reason_number Short) (verdict_number (list_check (head_in head) p buffer))
          ≡ verdict_number (cond b (Err Short) (list_check (head_in head) p buffer))
      go true = refl
      go false = refl
