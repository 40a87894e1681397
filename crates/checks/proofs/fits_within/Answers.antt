-- `checks::fits_within` meets its contract: good sides have a product that fits. Assumes nothing.
use mathlib.Core.Path.{sym, ◌∙◌}
use native.Mathlib.Omega.{arith}
use Rattle.checks.proofs.sound.RowEnds.{good_sides}
use Rattle.checks.proofs.fits_within.Goals as goal

pub overflow_mul-n : goal.overflow_mul-n
overflow_mul-n c = omega (arith, good_sides _ _ (sym c.bad_sides.ensures ∙ c.if-bad_sides.false))
