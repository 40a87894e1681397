-- A host tells a refusal by its number: one of 70,000 or more is a refusal's, and every list that was lent stays as it was.
-- Assumes nothing.
use Rattle.std.specs.Prelude.{Ok, Err}
use mathlib.Core.Path.{◌≡◌, refl, ap}
use mathlib.Core.Bool.{Bool, true, false, cond}
use mathlib.Core.List.{List}
use Prim.Native.Nat.{ℕ, ◌≤◌}
use native.Mathlib.Omega.{arith}
use lib.ListN.{length}
use Rattle.model.specs.Lent.{Lent, Scratch, After}
use Rattle.model.specs.Refusals.{too_short}
use Rattle.model.specs.Numbers.{changed_answer, plan_answer, move_answer, given_number}
use Rattle.model.specs.Plan.{AfterPlan, planned}
use Rattle.model.specs.Listing.{list_check, listed}
use Rattle.model.specs.Store.{AfterSave}
use Rattle.model.specs.Verdict.{Verdict}
use Rattle.model.specs.declared.Changed.{Changed}
use Rattle.model.specs.declared.Moved.{Moved}
use Rattle.model.proofs.Calls.LayoutLaws.{LayingOut, layout_refused, layout_laid, layout_is}
use Rattle.model.proofs.Calls.ReportLaws.{Reporting, report_refused, report_taken, report_is}
use Rattle.model.proofs.Calls.PlanCases.{Planning, plan_refused, plan_there, plan_none, plan_found, plan_is}
use Rattle.model.proofs.Calls.MoveLaws.{Moving, move_refused, move_there, move_lost, move_went, move_is, moved_held}
use Rattle.model.proofs.Calls.ListLaws.{list_writes, list_leaves}
use Rattle.model.proofs.Record.SaveAndLoad.{Saving, save_refused, save_wrote, save_is, Loading, load_refused, load_read, load_is}
use Rattle.salenduro.specs.Heads.{head_size, head_in}
use Rattle.salenduro.specs.Buffers.{unless_short, AfterHost, AfterHostPlan, AfterHostFill, after_host, after_host_plan, after_host_fill, count_after}
use Rattle.salenduro.specs.Buffers.{cell_after, headed, list_answer, laid_out_host, reported_host, planned_host, moved_host, listed_host, saved_host}
use Rattle.salenduro.specs.Buffers.{loaded_host}
use Rattle.salenduro.proofs.AnswersFit.{route_few, list_few}

-- refused, and nothing changed
abbrev pub Stays : (head : List ℕ) → Lent → AfterHost → Type 0
Stays head p a = 70000 ≤ a.answer → (a.head ≡ head) × (a.lists ≡ p)

abbrev pub PlanStays : (head : List ℕ) → Lent → Scratch → AfterHostPlan → Type 0
PlanStays head p s a = 70000 ≤ a.answer → (a.head ≡ head) × (a.lists ≡ p) × (a.scratch ≡ s)

abbrev pub FillStays : (buffer : List ℕ) → AfterHostFill → Type 0
FillStays buffer a = 70000 ≤ a.answer → a.buffer ≡ buffer

-- of a short head array, and of the call
either : {A : Type 0} (P : A → Type 0) (head : List ℕ) (x y : A) → P x → P y → P (unless_short head x y)
either P head x y s c = go (too_short head_size head)
  where
    go : (b : Bool) → P (cond b x y)
    go true = s
    go false = c

module _ (head : List ℕ) (p : Lent) where
  pub layout_stays : (w h start goal : ℕ) → Stays head p (laid_out_host w h start goal head p)
  unfolding laid_out_host
  layout_stays w h start goal = either (Stays head p) head _ _ (λ _. (refl, refl)) (go (layout_is w h start goal p))
    where
      go : {r : After Changed} → LayingOut w h start goal p r → Stays head p (headed head r)
      go (layout_refused e) l = (refl, refl)
      go (layout_laid a m) l = absurd (omega arith)

  pub load_stays : (bytes : List ℕ) → Stays head p (loaded_host bytes head p)
  unfolding loaded_host
  load_stays bytes = either (Stays head p) head _ _ (λ _. (refl, refl)) (go (load_is bytes p))
    where
      go : {r : After Changed} → Loading bytes p r → Stays head p (headed head r)
      go (load_refused e) l = (refl, refl)
      go (load_read e) l = absurd (omega arith)

  pub report_stays : (c : ℕ) → Stays head p (reported_host head p c)
  unfolding reported_host
  report_stays c = either (Stays head p) head _ _ (λ _. (refl, refl)) (go (report_is (head_in head) p c))
    where
      go : {r : After Changed} → Reporting (head_in head) p c r → Stays head p (after_host (changed_answer r.answer.verdict) head r.lists)
      go (report_refused e) l = (refl, refl)
      go (report_taken a i d) l = absurd (omega arith)

  pub move_stays : Stays head p (moved_host head p)
  unfolding moved_host
  move_stays = either (Stays head p) head _ _ (λ _. (refl, refl)) (go (move_is (head_in head) p))
    where
      go : {r : After Moved} → Moving (head_in head) p r
          → Stays head p (after_host (move_answer r.answer.head.cell r.answer.step) (cell_after r.answer head) r.lists)
      go (move_refused e) l = (refl, refl)
      go (move_lost a d t) l = (refl, refl)
      go (move_there a e) l = absurd (omega (arith, a.placed.cart_on, a.placed.few))
      go (move_went a d t) l = let k = moved_held (head_in head) p a d t in absurd (omega (arith, k.placed.cart_on, k.placed.few))

  pub plan_stays : (s : Scratch) → PlanStays head p s (planned_host head p s)
  unfolding planned_host
  plan_stays s = either (PlanStays head p s) head _ _ (λ _. (refl, refl, refl)) (go (plan_is (head_in head) p s) refl)
    where
      go : {r : AfterPlan} → Planning (head_in head) p s r → planned (head_in head) p s ≡ r
          → PlanStays head p s (after_host_plan (plan_answer r.answer.outcome) (count_after r.answer head) r.lists r.scratch)
      go (plan_refused e) q l = (refl, refl, refl)
      go (plan_there a ok e) q l = absurd (omega arith)
      go (plan_none a ok d x) q l = absurd (omega arith)
      go (plan_found a ok d x) q l = absurd (omega (arith, route_few (head_in head) p s _ (ap (λ (r : AfterPlan). r.answer.outcome) q)))

  pub save_stays : (bytes : List ℕ) → FillStays bytes (saved_host head p bytes)
  unfolding saved_host
  save_stays bytes = either (FillStays bytes) head _ _ (λ _. refl) (go (save_is (head_in head) p bytes))
    where
      go : {r : AfterSave} → Saving (head_in head) p bytes r → FillStays bytes (after_host_fill (given_number r.answer.length) r.buffer)
      go (save_refused e) l = refl
      go (save_wrote a w) l = absurd (omega (arith, a.placed.few))

  pub list_stays : (buffer : List ℕ) → FillStays buffer (listed_host head p buffer)
  unfolding listed_host
  list_stays buffer = either (FillStays buffer) head _ _ (λ _. refl) (go _ refl)
    where
      go : (v : Verdict) → list_check (head_in head) p buffer ≡ v
          → FillStays buffer (after_host_fill (list_answer v (length (listed (head_in head) p buffer).front)) (listed (head_in head) p buffer).buffer)
      go (Ok _) e l = absurd (omega (arith, (list_writes (head_in head) p buffer e).long, list_few (head_in head) p buffer e))
      go (Err why) e l = (list_leaves (head_in head) p buffer e).1
