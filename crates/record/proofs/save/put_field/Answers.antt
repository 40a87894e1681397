-- `record::save::put_field` meets its contract: before each iteration the first `i` bytes stand in the field (`FieldWritten`). Assumes nothing.
use Rattle.record.proofs.save.FieldWritten.{link_next}
use mathlib.Core.Path.{refl}
use native.Mathlib.Omega.{arith}
use Rattle.record.proofs.save.put_field.Goals as goal

pub loop-i-preserved : goal.loop-i-preserved
loop-i-preserved c = link_next _ c.loop-i.i _ c.loop-i.invariant refl (omega arith) (omega arith) (omega arith)
