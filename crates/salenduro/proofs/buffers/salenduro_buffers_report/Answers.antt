-- `salenduro_buffers_report` meets its contract: a short head array, or what the call answers (`BufferCases`). Assumes nothing.
use Rattle.salenduro.proofs.buffers.BufferCases.{host_short, report_called}
use Rattle.salenduro.specs.Buffers.{reported_host}
use native.Mathlib.Omega.{arith}
use Rattle.salenduro.proofs.buffers.salenduro_buffers_report.Goals as goal

pub returns-then-head-lt-HEAD_SIZE : goal.returns-then-head-lt-HEAD_SIZE
unfolding reported_host
returns-then-head-lt-HEAD_SIZE c = host_short _ _ c.refusal.ensures (omega arith) _

pub returns : goal.returns
returns c =
    report_called _ _ c.if-head-lt-HEAD_SIZE.false c.head_in.ensures _ c.report-changed.ensures
    c.changed_answer.ensures
