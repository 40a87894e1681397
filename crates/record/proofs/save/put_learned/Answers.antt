-- `record::save::put_learned` meets its contract: before each iteration the first `i` values stand in the field (`FieldWritten`). Assumes nothing.
use Rattle.record.proofs.save.FieldWritten.{gather_begin, learned_next, learned_end}
use mathlib.Core.Path.{refl}
use native.Mathlib.Omega.{arith}
use Rattle.record.proofs.save.put_learned.Goals as goal

pub loop-i-init : goal.loop-i-init
loop-i-init c = gather_begin _ _ (omega arith)

pub loop-i-preserved : goal.loop-i-preserved
loop-i-preserved c = learned_next _ c.loop-i.i _ c.loop-i.invariant refl c.put_pair.ensures refl (omega arith)

pub returns : goal.returns
returns c = learned_end _ 6 _ c.args.part.now c.loop-i.i c.loop-i.invariant (omega arith) c.put_front.ensures
