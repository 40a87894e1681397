-- `checks::layout_check` meets its contract: the least length and the larger cell serve all. Assumes nothing.
use native.Mathlib.Omega.{arith}
use Rattle.checks.proofs.SharedTests.{layout_by}
use Rattle.checks.proofs.layout_check.Goals as goal

pub returns : goal.returns
returns c = layout_by _ _ _ _ _ c.fits_within.ensures (omega (arith, c.min.ensures, c.min-room.ensures)) c.max.ensures
