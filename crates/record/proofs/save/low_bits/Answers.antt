-- `record::save::low_bits` meets its contract: before each iteration the byte holds its lowest `m` bits (`BitByBit`). Assumes nothing.
use Rattle.record.proofs.save.BitByBit.{pack_begin, pack_next, pack_end}
use mathlib.Core.Path.{refl}
use Prim.Native.Nat.{◌+◌, ◌*◌, ◌-◌}
use native.Mathlib.Omega.{arith}
use Rattle.record.proofs.save.low_bits.Goals as goal

pub loop-m-init : goal.loop-m-init
loop-m-init c = pack_begin _ _ _

pub loop-m-preserved : goal.loop-m-preserved
loop-m-preserved c =
    pack_next c.loop-m.invariant _ refl (c.requires.0.bits (8 * c.args.j + c.loop-m.m) (omega (arith, c.min-count.ensures)))
    (omega (arith, c.min-count.ensures))

pub returns : goal.returns
returns c =
    pack_end c.loop-m.invariant (8 - c.loop-m.m) (omega (arith, c.min-count.ensures)) (λ s. omega (arith, s, c.min-count.ensures))
