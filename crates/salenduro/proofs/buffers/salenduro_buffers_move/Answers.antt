-- `salenduro_buffers_move` meets its contract: a short head array, or what the call answers (`BufferCases`). Assumes nothing.
use Rattle.salenduro.proofs.AnswersFit.{move_fits}
use Rattle.salenduro.proofs.buffers.BufferCases.{host_short, move_called}
use Rattle.salenduro.specs.Buffers.{moved_host}
use native.Mathlib.Omega.{arith}
use Rattle.salenduro.proofs.buffers.salenduro_buffers_move.Goals as goal

pub returns-then-head-lt-HEAD_SIZE : goal.returns-then-head-lt-HEAD_SIZE
unfolding moved_host
returns-then-head-lt-HEAD_SIZE c = host_short _ _ c.refusal.ensures (omega arith) _

pub move_answer-requires : goal.move_answer-requires
move_answer-requires c = move_fits _ _ c.advance-moved.ensures

pub returns : goal.returns
returns c =
    move_called _ _ c.if-head-lt-HEAD_SIZE.false c.head_in.ensures c.advance-moved.ensures
    (rw c.verdict.ensures at c.set_entry.ensures) c.move_answer.ensures
