-- The number and values of each case of each answer. Document 01 gives those of a refusal and of the C calls' answers;
-- layout, load and save go by the same rule where a host asks for one number.
use Rattle.std.specs.Prelude.{ℕ, ◌+◌, Ok, Err, Result}
use Rattle.model.specs.declared.Reason.{Reason}
use Rattle.model.specs.declared.Reason.TheVariants.{Sides, Short, Outside, Unsound, OwnCell, NoRoute, Form}
use Rattle.model.specs.Verdict.{Verdict}
use Rattle.model.specs.declared.Outcome.{Outcome}
use Rattle.model.specs.declared.Step.{Step}

-- the table's numbers
abbrev pub reason_number : Reason → ℕ
reason_number Sides = 1
reason_number Short = 2
reason_number Outside = 3
reason_number Unsound = 4
reason_number OwnCell = 5
reason_number NoRoute = 6
reason_number Form = 8

-- "the refusal's number, or 0"
abbrev pub verdict_number : Verdict → ℕ
verdict_number (Ok _) = 0
verdict_number (Err why) = reason_number why

-- What each answer is as a verdict ..
abbrev pub outcome_verdict : Outcome → Verdict
outcome_verdict (Outcome.Route len) = Ok tt
outcome_verdict Outcome.NoWay = Ok tt
outcome_verdict Outcome.Arrived = Ok tt
outcome_verdict (Outcome.Refused why) = Err why

abbrev pub step_verdict : Result Step Reason → Verdict
step_verdict (Ok Step.Moved) = Ok tt
step_verdict (Ok Step.Arrived) = Ok tt
step_verdict (Err why) = Err why

abbrev pub length_verdict : Result ℕ Reason → Verdict
length_verdict (Ok n) = Ok tt
length_verdict (Err why) = Err why

-- .. and as one number for a C host: "a refusal n is 70,000 + n"
abbrev pub refusal : Reason → ℕ
refusal why = 70000 + reason_number why

-- what a call gives, or the refusal: "Save answers the record's length"
abbrev pub given_number : Result ℕ Reason → ℕ
given_number (Ok n) = n
given_number (Err why) = refusal why

-- "report gives 0"; layout and load likewise
abbrev pub changed_answer : Verdict → ℕ
changed_answer (Ok _) = 0
changed_answer (Err why) = refusal why

-- "plan gives the length (0 arrived) or 65,535 for no way"
abbrev pub plan_answer : Outcome → ℕ
plan_answer (Outcome.Route len) = len
plan_answer Outcome.NoWay = 65535
plan_answer Outcome.Arrived = 0
plan_answer (Outcome.Refused why) = refusal why

-- "move gives the cell the cart is then on"
abbrev pub move_answer : (cell : ℕ) → Result Step Reason → ℕ
move_answer cell (Ok Step.Moved) = cell
move_answer cell (Ok Step.Arrived) = cell
move_answer cell (Err why) = refusal why
