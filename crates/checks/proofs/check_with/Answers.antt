-- `checks::check_with` meets its contract: what 1 to 3 leave is what the test of soundness is given. Assumes nothing.
use mathlib.Core.Path.{sym, ◌∙◌}
use Rattle.checks.proofs.SharedTests.{with_given}
use Rattle.checks.proofs.check_with.Goals as goal

pub sound-requires : goal.sound-requires
sound-requires c = with_given _ _ _ _ (sym c.fits_with.ensures ∙ c.in_ok-fits_with.was)
