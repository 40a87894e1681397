-- `salenduro_buffers_load` meets its contract: a short head array, or what the call answers (`BufferCases`). Assumes nothing.
use Rattle.salenduro.proofs.buffers.BufferCases.{host_short, headed_called}
use Rattle.salenduro.specs.Buffers.{loaded_host}
use native.Mathlib.Omega.{arith}
use Rattle.salenduro.proofs.buffers.salenduro_buffers_load.Goals as goal

pub returns-then-head-lt-HEAD_SIZE : goal.returns-then-head-lt-HEAD_SIZE
unfolding loaded_host
returns-then-head-lt-HEAD_SIZE c = host_short _ _ c.refusal.ensures (omega arith) _

pub returns : goal.returns
unfolding loaded_host
returns c =
    headed_called _ _ _ c.if-head-lt-HEAD_SIZE.false c.load-read.ensures c.set_head.ensures
    c.changed_answer.ensures
