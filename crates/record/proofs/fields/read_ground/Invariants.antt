-- `record::fields::read_ground` meets its contract: before each iteration the cells of the first `j` bytes are those of the part, and then
-- the first `c` cells (`FillLoop`). Assumes nothing.
use Rattle.record.specs.Cells.{bit_at}
use Rattle.model.proofs.Lists.FillLoop.{Filled}
use Prim.Native.Nat.{◌*◌}
use Rattle.record.proofs.fields.read_ground.Given as goal

abbrev pub invariant-loop-j : goal.invariant-loop-j
invariant-loop-j l = Filled (bit_at l.part) (8 * l.j) l.initial.ground l.ground

abbrev pub invariant-loop-c : goal.invariant-loop-c
invariant-loop-c l = Filled (bit_at l.part) l.c l.fn.ground l.ground
