-- `drawing::fill_truth` meets its contract: before each iteration the first `c` cells are laid (`FillLoop`). Assumes nothing.
use Rattle.drawing.specs.Drawing.{truth_in}
use Rattle.model.proofs.Lists.FillLoop.{Filled}
use Rattle.drawing.proofs.fill_truth.Given as goal

abbrev pub invariant-loop-c : goal.invariant-loop-c
invariant-loop-c l = Filled (truth_in l.plot.width l.rows) l.c l.initial.truth l.truth
