-- `salenduro_buffers_question` meets its contract: a short head array, or the question's own number (`BufferCases`). Assumes nothing.
use mathlib.Core.Path.{sym, ◌∙◌}
use native.Mathlib.Omega.{arith}
use Rattle.salenduro.proofs.AnswersFit.{question_fits}
use Rattle.salenduro.proofs.buffers.BufferCases.{question_short, question_called}
use Rattle.salenduro.proofs.buffers.salenduro_buffers_question.Goals as goal

pub returns-then-head-lt-HEAD_SIZE : goal.returns-then-head-lt-HEAD_SIZE
returns-then-head-lt-HEAD_SIZE c = c.number.ensures ∙ sym (question_short _ _ _ (omega arith))

pub overflow_cast-result-2 : goal.overflow_cast-result-2
overflow_cast-result-2 c = omega (arith, question_fits _ _ _ c.list_question.ensures)

pub returns : goal.returns
returns c = rw (question_called _ _ _ c.if-head-lt-HEAD_SIZE.false, ← c.head_in.ensures) c.list_question.ensures
