-- `record::save::save_check` meets its contract: the record of accepted data has a length. Assumes nothing.
use native.Mathlib.Omega.{arith}
use Rattle.record.proofs.save.SaveCases.{verdict_few}
use Rattle.record.proofs.save.save_check.Goals as goal

pub overflow_mul-head : goal.overflow_mul-head
overflow_mul-head c = omega (arith, verdict_few _ _ c.acceptance.ensures c.in_ok-acceptance.was)

pub record_length-requires : goal.record_length-requires
record_length-requires c = verdict_few _ _ c.acceptance.ensures c.in_ok-acceptance.was
