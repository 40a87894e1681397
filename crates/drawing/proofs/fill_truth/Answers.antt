-- `drawing::fill_truth` meets its contract: before each iteration the first `c` cells are laid (`FillLoop`). Assumes nothing.
use Rattle.drawing.specs.Drawing.{truth_in}
use Rattle.model.proofs.Lists.FillLoop.{fill_begin, fill_next}
use Rattle.drawing.proofs.fill_truth.Goals as goal

pub loop-c-init : goal.loop-c-init
loop-c-init c = fill_begin (truth_in _ _) _

pub loop-c-preserved : goal.loop-c-preserved
unfolding truth_in
loop-c-preserved c = fill_next _ c.loop-c.invariant c.truth_at.ensures
