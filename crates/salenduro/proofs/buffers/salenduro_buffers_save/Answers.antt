-- `salenduro_buffers_save` meets its contract: a short head array, or what the call answers (`BufferCases`). Assumes nothing.
use Rattle.salenduro.proofs.AnswersFit.{save_fits}
use Rattle.salenduro.proofs.buffers.BufferCases.{fill_short, save_called}
use Rattle.salenduro.specs.Buffers.{saved_host}
use native.Mathlib.Omega.{arith}
use Rattle.salenduro.proofs.buffers.salenduro_buffers_save.Goals as goal

pub returns-then-head-lt-HEAD_SIZE : goal.returns-then-head-lt-HEAD_SIZE
unfolding saved_host
returns-then-head-lt-HEAD_SIZE c = fill_short c.args.head.now _ c.refusal.ensures (omega arith) _

pub save_answer-requires : goal.save_answer-requires
save_answer-requires c = save_fits _ _ _ c.save.ensures

pub returns : goal.returns
returns c =
    save_called _ _ c.if-head-lt-HEAD_SIZE.false c.head_in.ensures _ c.save.ensures
    c.save_answer.ensures
