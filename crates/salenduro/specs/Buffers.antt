-- For a host that keeps its buffers itself: each call over them, with the head in a lent array, answering one number.
use Rattle.std.specs.Prelude.{ℕ, cond, List, length, Ok, Err}
use Rattle.model.specs.Numbers.{reason_number, outcome_verdict, step_verdict, refusal, changed_answer, plan_answer, move_answer, given_number}
use Rattle.model.specs.Lent.{Lent, Scratch, After}
use Rattle.model.specs.Refusals.{too_short}
use Rattle.model.specs.Layout.{laid_out}
use Rattle.model.specs.Report.{reported}
use Rattle.model.specs.Plan.{planned}
use Rattle.model.specs.Move.{moved}
use Rattle.model.specs.Listing.{list_check, listed, list_question}
use Rattle.model.specs.Store.{saved, loaded}
use Rattle.model.specs.declared.Reason.TheVariants.{Short}
use Rattle.model.specs.Verdict.{Verdict}
use Rattle.model.specs.declared.Changed.{Changed}
use Rattle.model.specs.declared.Planned.{Planned}
use Rattle.model.specs.declared.Moved.{Moved}
use Rattle.salenduro.specs.Heads.{head_size, head_in, head_set, entry_set}

-- The head array afterwards ---------------------------------------------------------------------------------------------------------

-- Once accepted, plan sets the count and move the cart's cell; a refusal leaves the array
abbrev pub count_after : Planned → List ℕ → List ℕ
count_after r l = entry_set (outcome_verdict r.outcome) 4 r.expanded l

abbrev pub cell_after : Moved → List ℕ → List ℕ
cell_after r l = entry_set (step_verdict r.step) 3 r.head.cell l

-- a head array of fewer than five entries is refused first of all
abbrev pub unless_short : {A : Type 0} → (head : List ℕ) → (refused called : A) → A
unless_short head refused called = cond (too_short head_size head) refused called

-- What a call answers, and what it leaves: the head array and what is lent, for plan the scratch too, or one buffer ----------------

pub record AfterHost : Type 0 where
  pub answer : ℕ
  pub head : List ℕ
  pub lists : Lent

pub record AfterHostPlan : Type 0 where
  pub answer : ℕ
  pub head : List ℕ
  pub lists : Lent
  pub scratch : Scratch

pub record AfterHostFill : Type 0 where
  pub answer : ℕ
  pub buffer : List ℕ

abbrev pub after_host : ℕ → (head : List ℕ) → Lent → AfterHost
after_host answer head p = record { answer = answer; head = head; lists = p }

abbrev pub after_host_plan : ℕ → (head : List ℕ) → Lent → Scratch → AfterHostPlan
after_host_plan answer head p s = record { answer = answer; head = head; lists = p; scratch = s }

abbrev pub after_host_fill : ℕ → (buffer : List ℕ) → AfterHostFill
after_host_fill answer buffer = record { answer = answer; buffer = buffer }

-- The calls -----------------------------------------------------------------------------------------------------------------------

-- layout and load, which are given no head, set it
abbrev pub headed : (head : List ℕ) → After Changed → AfterHost
headed head r = after_host (changed_answer r.answer.verdict) (head_set r.answer head) r.lists

unfoldable pub laid_out_host : (w h start goal : ℕ) (head : List ℕ) → Lent → AfterHost
laid_out_host w h start goal head p = unless_short head (after_host (refusal Short) head p) (headed head (laid_out w h start goal p))

unfoldable pub loaded_host : (bytes head : List ℕ) → Lent → AfterHost
loaded_host bytes head p = unless_short head (after_host (refusal Short) head p) (headed head (loaded bytes p))

-- report changes no head
unfoldable pub reported_host : (head : List ℕ) → Lent → (c : ℕ) → AfterHost
reported_host head p c =
    let r = reported (head_in head) p c in
    unless_short head (after_host (refusal Short) head p) (after_host (changed_answer r.answer.verdict) head r.lists)

unfoldable pub planned_host : (head : List ℕ) → Lent → Scratch → AfterHostPlan
planned_host head p s =
    let r = planned (head_in head) p s in
    unless_short head (after_host_plan (refusal Short) head p s)
    (after_host_plan (plan_answer r.answer.outcome) (count_after r.answer head) r.lists r.scratch)

unfoldable pub moved_host : (head : List ℕ) → Lent → AfterHost
moved_host head p =
    let r = moved (head_in head) p in
    unless_short head (after_host (refusal Short) head p)
    (after_host (move_answer r.answer.head.cell r.answer.step) (cell_after r.answer head) r.lists)

-- list answers how many cells it wrote
abbrev pub list_answer : Verdict → (count : ℕ) → ℕ
list_answer (Ok _) count = count
list_answer (Err why) count = refusal why

unfoldable pub listed_host : (head : List ℕ) → Lent → (buffer : List ℕ) → AfterHostFill
listed_host head p buffer =
    let r = listed (head_in head) p buffer in
    unless_short head (after_host_fill (refusal Short) buffer)
    (after_host_fill (list_answer (list_check (head_in head) p buffer) (length r.front)) r.buffer)

-- the question's numbers are the table's own
unfoldable pub question_host : (head : List ℕ) → Lent → (buffer : List ℕ) → ℕ
question_host head p buffer = unless_short head (reason_number Short) (list_question (head_in head) p buffer)

unfoldable pub saved_host : (head : List ℕ) → Lent → (bytes : List ℕ) → AfterHostFill
saved_host head p bytes =
    let r = saved (head_in head) p bytes in
    unless_short head (after_host_fill (refusal Short) bytes) (after_host_fill (given_number r.answer.length) r.buffer)
