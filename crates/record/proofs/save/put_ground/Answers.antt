-- `record::save::put_ground` meets its contract: before each iteration the first `j` bytes stand in the field (`FieldWritten`), and a last
-- one that is not full is put behind them. Assumes nothing.
use Rattle.record.proofs.save.FieldWritten.{gather_begin, ground_next, ground_end}
use Rattle.record.proofs.save.EightBits.{whole_byte}
use Prim.Native.Nat.{◌/◌}
use mathlib.Core.Path.{◌≡◌, ◌∙◌}
use native.Mathlib.Omega.{arith}
use Rattle.record.proofs.save.put_ground.Goals as goal

pub loop-j-init : goal.loop-j-init
loop-j-init c = gather_begin _ _ (omega arith)

pub loop-j-preserved : goal.loop-j-preserved
loop-j-preserved c =
    ground_next _ _ c.loop-j.j _ c.loop-j.invariant (c.eight_bits.ensures ∙ whole_byte _ _ _ (omega arith)) (omega arith)

pub returns-then-whole-size : goal.returns-then-whole-size
returns-then-whole-size c =
    let whole : c.loop-j.j ≡ c.args.n / 8 = omega arith in
    ground_end _ _ 5 _ c.args.part.now _ c.ground_size-size.ensures
    (ground_next _ _ _ _ (rw whole at c.loop-j.invariant) c.low_bits.ensures (omega arith))
    (omega (arith, c.ground_size-size.ensures)) c.put_front.ensures

pub returns-else-whole-size : goal.returns-else-whole-size
returns-else-whole-size c =
    ground_end _ _ 5 _ c.args.part.now c.loop-j.j c.ground_size-size.ensures c.loop-j.invariant
    (omega (arith, c.ground_size-size.ensures)) c.put_front.ensures
