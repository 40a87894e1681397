-- Every call with its input; what it answers and leaves; what was lent, and is lent afterwards.
use Rattle.std.specs.Prelude.{cond, List, [], ◌∷◌, ◌++◌, ℕ, ◌-◌, ltb}
use Rattle.model.specs.Lent.{Lent, Scratch, After, buffers_of, scratch_buffers}
use Rattle.model.specs.Head.{no_head}
use Rattle.model.specs.Numbers.{verdict_number, outcome_verdict, step_verdict, length_verdict}
use Rattle.model.specs.Layout.{laid_out}
use Rattle.model.specs.Report.{reported}
use Rattle.model.specs.Plan.{AfterPlan, planned}
use Rattle.model.specs.Move.{moved}
use Rattle.model.specs.Listing.{AfterList, listed, list_question}
use Rattle.model.specs.Store.{AfterSave, saved, loaded}
use Rattle.model.specs.Controller.{AfterC, reported_c, planned_c, moved_c}
use Rattle.model.specs.declared.Head.{Head}
use Rattle.model.specs.declared.Changed.{Changed}
use Rattle.model.specs.declared.Moved.{Moved}

pub data Ask : Type 0 where
  layout : (w h start goal : ℕ) → Lent → Ask
  report : Head → Lent → (c : ℕ) → Ask
  plan : Head → Lent → Scratch → Ask
  move : Head → Lent → Ask
  list : Head → Lent → (buffer : List ℕ) → Ask
  question : Head → Lent → (buffer : List ℕ) → Ask
  save : Head → Lent → (buffer : List ℕ) → Ask
  load : (bytes : List ℕ) → Lent → Ask
  -- the calls for C, over a record
  report_c : (bytes : List ℕ) (c : ℕ) → Ask
  plan_c : (bytes : List ℕ) → Ask
  move_c : (bytes : List ℕ) → Ask

-- what a contract speaks of: the answer, and every lent list afterwards
abbrev pub Result : Ask → Type 0
Result (layout w h start goal p) = After Changed
Result (report head p c) = After Changed
Result (plan head p s) = AfterPlan
Result (move head p) = After Moved
Result (list head p buffer) = AfterList
Result (question head p buffer) = ℕ
Result (save head p buffer) = AfterSave
Result (load bytes p) = After Changed
Result (report_c bytes c) = AfterC
Result (plan_c bytes) = AfterC
Result (move_c bytes) = AfterC

-- the definitions that the contracts cite
abbrev pub result : (a : Ask) → Result a
result (layout w h start goal p) = laid_out w h start goal p
result (report head p c) = reported head p c
result (plan head p s) = planned head p s
result (move head p) = moved head p
result (list head p buffer) = listed head p buffer
result (question head p buffer) = list_question head p buffer
result (save head p buffer) = saved head p buffer
result (load bytes p) = loaded bytes p
result (report_c bytes c) = reported_c bytes c
result (plan_c bytes) = planned_c bytes
result (move_c bytes) = moved_c bytes

-- every list that is lent, ..
abbrev pub lent : Ask → List (List ℕ)
lent (layout w h start goal p) = buffers_of p
lent (report head p c) = buffers_of p
lent (plan head p s) = buffers_of p ++ scratch_buffers s
lent (move head p) = buffers_of p
lent (list head p buffer) = buffer ∷ []
lent (question head p buffer) = buffer ∷ []
lent (save head p buffer) = buffer ∷ []
lent (load bytes p) = buffers_of p
lent (report_c bytes c) = bytes ∷ []
lent (plan_c bytes) = bytes ∷ []
lent (move_c bytes) = bytes ∷ []

-- .. and what it is afterwards. (A list that a call can only read stays by its type, and is not named.)
abbrev pub left : (a : Ask) → Result a → List (List ℕ)
left (layout w h start goal p) r = buffers_of r.lists
left (report head p c) r = buffers_of r.lists
left (plan head p s) r = buffers_of r.lists ++ scratch_buffers r.scratch
left (move head p) r = buffers_of r.lists
left (list head p buffer) r = r.buffer ∷ []
left (question head p buffer) r = buffer ∷ []
left (save head p buffer) r = r.buffer ∷ []
left (load bytes p) r = buffers_of r.lists
left (report_c bytes c) r = r.bytes ∷ []
left (plan_c bytes) r = r.bytes ∷ []
left (move_c bytes) r = r.bytes ∷ []

-- "a refusal n is 70,000 + n"
abbrev pub number_c : (answer : ℕ) → ℕ
number_c answer = cond (ltb answer 70000) 0 (answer - 70000)

-- the number of a refusal, and 0 where the call is accepted; list's is its question's
abbrev pub number : (a : Ask) → Result a → ℕ
number (layout w h start goal p) r = verdict_number r.answer.verdict
number (report head p c) r = verdict_number r.answer.verdict
number (plan head p s) r = verdict_number (outcome_verdict r.answer.outcome)
number (move head p) r = verdict_number (step_verdict r.answer.step)
number (list head p buffer) r = list_question head p buffer
number (question head p buffer) r = r
number (save head p buffer) r = verdict_number (length_verdict r.answer.length)
number (load bytes p) r = verdict_number r.answer.verdict
number (report_c bytes c) r = number_c r.answer
number (plan_c bytes) r = number_c r.answer
number (move_c bytes) r = number_c r.answer

-- the head that is given, and the one that comes back; zeros where there is none
abbrev pub head_in : Ask → Head
head_in (layout w h start goal p) = no_head
head_in (report head p c) = head
head_in (plan head p s) = head
head_in (move head p) = head
head_in (list head p buffer) = no_head
head_in (question head p buffer) = no_head
head_in (save head p buffer) = head
head_in (load bytes p) = no_head
head_in (report_c bytes c) = no_head
head_in (plan_c bytes) = no_head
head_in (move_c bytes) = no_head

abbrev pub head_out : (a : Ask) → Result a → Head
head_out (layout w h start goal p) r = r.answer.head
head_out (report head p c) r = r.answer.head
head_out (plan head p s) r = r.answer.head
head_out (move head p) r = r.answer.head
head_out (list head p buffer) r = no_head
head_out (question head p buffer) r = no_head
head_out (save head p buffer) r = r.answer.head
head_out (load bytes p) r = r.answer.head
head_out (report_c bytes c) r = no_head
head_out (plan_c bytes) r = no_head
head_out (move_c bytes) r = no_head
