-- `checks::fits_with` meets its contract: the least length and the largest cell serve 1 to 3 for all. Assumes nothing.
use native.Mathlib.Omega.{arith}
use Rattle.checks.proofs.SharedTests.{with_by}
use Rattle.checks.proofs.fits_with.Goals as goal

pub returns : goal.returns
returns c =
    with_by _ _ _ _ c.fits_within.ensures (omega (arith, c.min.ensures, c.min-2.ensures, c.min-room.ensures))
    (omega (arith, c.max.ensures, c.max-far.ensures))
