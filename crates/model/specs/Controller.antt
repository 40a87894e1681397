-- For the C controller: report, plan and move over a record in the caller's bytes, answering one number.
use Rattle.std.specs.Prelude.{ℕ, List, replicate, Ok, Err}
use Rattle.model.specs.Numbers.{outcome_verdict, step_verdict, refusal, changed_answer, plan_answer, move_answer}
use Rattle.model.specs.Plot.{max_cells}
use Rattle.model.specs.Lent.{Lent, Scratch, scratch_with}
use Rattle.model.specs.Head.{cells_of}
use Rattle.model.specs.Record.{record_of, head_of, read_into, room_for}
use Rattle.model.specs.Store.{load_check}
use Rattle.model.specs.Report.{reported}
use Rattle.model.specs.Plan.{planned}
use Rattle.model.specs.Move.{moved}
use Rattle.model.specs.declared.Head.{Head}
use Rattle.model.specs.Verdict.{Verdict}

-- "each holds room for 4,096 cells of its own"
abbrev pub own_room : Lent
own_room = room_for max_cells

abbrev pub own_scratch : Scratch
own_scratch = scratch_with (replicate max_cells 0) (replicate max_cells 0) (replicate max_cells 0)

-- the answer, and the caller's bytes afterwards
pub record AfterC : Type 0 where
  pub answer : ℕ
  pub bytes : List ℕ

abbrev pub after_c : ℕ → List ℕ → AfterC
after_c answer bytes = record { answer = answer; bytes = bytes }

-- the record is "rewritten there", and a refusal leaves the bytes
abbrev pub rewritten : Verdict → (before after : List ℕ) → List ℕ
rewritten (Ok _) before after = after
rewritten (Err why) before after = before

-- "The checks are load's in load's order, then the call's own": the call answers, and leaves this state
unfoldable pub on_record : (bytes : List ℕ) → Verdict → (answer : ℕ) → Head → Lent → AfterC
on_record bytes verdict answer head p =
    elim (load_check bytes own_room) [
      | Ok _ ↦ after_c answer (rewritten verdict bytes (record_of head p))
      | Err why ↦ after_c (refusal why) bytes
    ]

-- the state that the bytes hold
abbrev pub state_in : List ℕ → Lent
state_in bytes = read_into (cells_of (head_of bytes)) bytes own_room

unfoldable pub reported_c : (bytes : List ℕ) (c : ℕ) → AfterC
reported_c bytes c =
    let r = reported (head_of bytes) (state_in bytes) c in
    on_record bytes r.answer.verdict (changed_answer r.answer.verdict) r.answer.head r.lists

unfoldable pub planned_c : (bytes : List ℕ) → AfterC
planned_c bytes =
    let r = planned (head_of bytes) (state_in bytes) own_scratch in
    on_record bytes (outcome_verdict r.answer.outcome) (plan_answer r.answer.outcome) r.answer.head r.lists

unfoldable pub moved_c : (bytes : List ℕ) → AfterC
moved_c bytes =
    let r = moved (head_of bytes) (state_in bytes) in
    on_record bytes (step_verdict r.answer.step) (move_answer r.answer.head.cell r.answer.step) r.answer.head r.lists
