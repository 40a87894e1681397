-- `record::save::low_bits` meets its contract: before each iteration the byte holds its lowest `m` bits (`BitByBit`). Assumes nothing.
use Rattle.record.proofs.save.BitByBit.{Packing}
use Rattle.record.proofs.save.low_bits.Given as goal

abbrev pub invariant-loop-m : goal.invariant-loop-m
invariant-loop-m l = Packing l.n l.ground l.j l.m l.byte l.bit
