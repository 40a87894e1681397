-- `salenduro_buffers_plan` meets its contract: a short head array, or what the call answers (`BufferCases`). Assumes nothing.
use Rattle.salenduro.proofs.AnswersFit.{plan_fits}
use Rattle.salenduro.proofs.buffers.BufferCases.{plan_short, plan_called}
use Rattle.salenduro.specs.Buffers.{planned_host}
use native.Mathlib.Omega.{arith}
use Rattle.salenduro.proofs.buffers.salenduro_buffers_plan.Goals as goal

pub returns-then-head-lt-HEAD_SIZE : goal.returns-then-head-lt-HEAD_SIZE
unfolding planned_host
returns-then-head-lt-HEAD_SIZE c = plan_short _ _ c.refusal.ensures (omega arith) _ _

pub plan_answer-requires : goal.plan_answer-requires
plan_answer-requires c = plan_fits _ _ _ c.plan-planned.ensures

pub returns : goal.returns
returns c =
    plan_called _ _ c.if-head-lt-HEAD_SIZE.false c.head_in.ensures _ c.plan-planned.ensures
    (rw c.verdict.ensures at c.set_entry.ensures) c.plan_answer.ensures
