-- `checks::sound::mark_ends` meets its contract: the rows before this one are marked. Assumes nothing.
use mathlib.Core.Path.{refl}
use native.Mathlib.Omega.{arith}
use Rattle.checks.proofs.sound.RowEnds.{row_in, mark_next}
use Rattle.checks.proofs.sound.mark_ends.Goals as goal

pub loop-row-preserved : goal.loop-row-preserved
loop-row-preserved c =
    mark_next _ _ _ _ c.requires.0 refl (omega (arith, row_in c.loop-row.row c.args.h c.args.w c.loop-row-test.true)) c.loop-row.invariant
