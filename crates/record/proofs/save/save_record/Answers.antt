-- `record::save::save_record` meets its contract: refused, or the record that its core writes (`SaveCases`). Assumes nothing.
use Rattle.std.proofs.Common.{rules, Err}
use mathlib.Core.Path.{◌≡◌}
use Rattle.record.proofs.save.SaveCases.{save_refused, save_written}
use Rattle.record.proofs.save.save_record.Goals as goal

pub returns-in_err-save_check : goal.returns-in_err-save_check
returns-in_err-save_check c =
    let same : c.from_residual.result ≡ Err c.in_err-save_check.field-0.0 = search rules in
    rw same (save_refused _ _ _ c.save_check.ensures c.in_err-save_check.was)

pub returns : goal.returns
returns c = save_written _ _ _ c.save_check.ensures _ _ c.in_ok-save_check.was c.record_length.ensures c.write_record.ensures
