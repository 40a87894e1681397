-- What a call's promise allows is one: two results that it allows have the same answer, and leave the same lists.
-- Assumes nothing.
use Rattle.std.specs.Prelude.{Result, Ok, Err}
use Prim.Native.Nat.{ℕ}
use mathlib.Core.Path.{◌≡◌, refl, ap}
use mathlib.Core.List.{List}
use Rattle.model.specs.Lent.{Lent, Scratch, lent_with, scratch_with, after}
use Rattle.model.specs.Layout.{laid_out}
use Rattle.model.specs.Report.{reported}
use Rattle.model.specs.Plan.{AfterPlan, after_plan, planned}
use Rattle.model.specs.Move.{moved}
use Rattle.model.specs.Numbers.{length_verdict}
use Rattle.model.specs.Listing.{AfterList, list_check, listed, list_question}
use Rattle.model.specs.declared.Head.{Head}
use Rattle.model.specs.declared.Reason.{Reason}
use Rattle.model.specs.Verdict.{Verdict}
use Rattle.model.specs.declared.Changed.{Changed}
use Rattle.model.specs.declared.Planned.{Planned}
use Rattle.model.specs.declared.Moved.{Moved}
use Rattle.model.proofs.Calls.Acceptance.{not_both}
use Rattle.model.proofs.Calls.OneResult.{coincide, answers, grounds, learneds, links}
use Rattle.calls.specs.Counted.{Counted, count_in}

-- layout: one answer, ground, learned and link
pub layout_coincides : (w h start goal : ℕ) (p : Lent) {r r' : Changed} {ground learned link ground' learned' link' : List ℕ}
    → after r (lent_with ground learned link) ≡ laid_out w h start goal p
    → after r' (lent_with ground' learned' link') ≡ laid_out w h start goal p
    → (r ≡ r') × (ground ≡ ground') × (learned ≡ learned') × (link ≡ link')
layout_coincides w h start goal p e f = let q = coincide e f in (answers q, grounds q, learneds q, links q)

-- what the other calls are given
module _ (head : Head) (p : Lent) where
  -- report: one answer, ground and link
  pub report_coincides : (c : ℕ) {r r' : Changed} {ground link ground' link' : List ℕ}
      → after r (lent_with ground p.learned link) ≡ reported head p c
      → after r' (lent_with ground' p.learned link') ≡ reported head p c
      → (r ≡ r') × (ground ≡ ground') × (link ≡ link')
  report_coincides c e f = let q = coincide e f in (answers q, grounds q, links q)

  -- plan: one answer, learned, link, mark, cost and trail
  pub plan_coincides : (s : Scratch) {r r' : Planned} {learned link mark cost trail learned' link' mark' cost' trail' : List ℕ}
      → after_plan r (lent_with p.ground learned link) (scratch_with mark cost trail) ≡ planned head p s
      → after_plan r' (lent_with p.ground learned' link') (scratch_with mark' cost' trail') ≡ planned head p s
      → (r ≡ r') × (learned ≡ learned') × (link ≡ link') × (mark ≡ mark') × (cost ≡ cost') × (trail ≡ trail')
  plan_coincides s e f =
      let q = coincide e f in (
        ap (λ (a : AfterPlan). a.answer) q,
        ap (λ (a : AfterPlan). a.lists.learned) q,
        ap (λ (a : AfterPlan). a.lists.link) q,
        ap (λ (a : AfterPlan). a.scratch.mark) q,
        ap (λ (a : AfterPlan). a.scratch.cost) q,
        ap (λ (a : AfterPlan). a.scratch.trail) q,
      )

  -- move: one answer and link
  pub move_coincides : {r r' : Moved} {link link' : List ℕ}
      → after r (lent_with p.ground p.learned link) ≡ moved head p
      → after r' (lent_with p.ground p.learned link') ≡ moved head p
      → (r ≡ r') × (link ≡ link')
  move_coincides e f = let q = coincide e f in (answers q, links q)

  -- list: one front, and it starts where the buffer starts
  pub list_coincides : (buffer : List ℕ) {front front' : List ℕ} {at at' start : ℕ × ℕ}
      → (front ≡ (listed head p buffer).front) × (at ≡ start)
      → (front' ≡ (listed head p buffer).front) × (at' ≡ start)
      → (front ≡ front') × (at ≡ at')
  list_coincides buffer f g = (coincide f.0 g.0, coincide f.1 g.1)

  -- the same with the front's length for an answer: one length, and one buffer
  pub count_coincides : (buffer : List ℕ) {l l' : List ℕ} {k k' : ℕ} → Counted head p buffer k l → Counted head p buffer k' l' → (k ≡ k') × (l ≡ l')
  count_coincides buffer f g = (coincide f.count g.count, ap (λ (a : AfterList). a.buffer) (coincide f.leaves g.leaves))

  -- and with why it is refused: one answer, and one buffer
  pub cells_coincide : (buffer : List ℕ) {l l' : List ℕ} {r r' : Result ℕ Reason}
      → (length_verdict r ≡ list_check head p buffer) × Counted head p buffer (count_in r) l
      → (length_verdict r' ≡ list_check head p buffer) × Counted head p buffer (count_in r') l'
      → (r ≡ r') × (l ≡ l')
  cells_coincide buffer {l} {l'} {r} {r'} f g =
      let q = count_coincides buffer f.1 g.1 in (one r r' (coincide f.0 g.0) q.0, q.1)
    where
      because : Verdict → Result ℕ Reason
      because (Ok _) = Ok 0
      because (Err why) = Err why

      one : (r r' : Result ℕ Reason) → length_verdict r ≡ length_verdict r' → count_in r ≡ count_in r' → r ≡ r'
      one (Ok k) (Ok k') e q = ap Ok q
      one (Ok k) (Err why) e q = absurd (not_both e refl)
      one (Err why) (Ok k) e q = absurd (not_both refl e)
      one (Err why) (Err why') e q = ap because e

  -- the question: one number
  pub question_coincides : (buffer : List ℕ) {r r' : ℕ} → r ≡ list_question head p buffer → r' ≡ list_question head p buffer → r ≡ r'
  question_coincides buffer = coincide
