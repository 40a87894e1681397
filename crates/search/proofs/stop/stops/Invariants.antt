-- `search::stop::stops` meets its contract: the invariant is the walk.
-- Assumes nothing.
use Rattle.search.proofs.stop.StopWalk.{Walking}
use Rattle.search.proofs.stop.stops.Given as goal

abbrev pub invariant-loop-at : goal.invariant-loop-at
invariant-loop-at l = Walking l.plot.width l.plot.height l.goal l.learned l.link l.initial.gone l.c l.at l.left l.gone

abbrev pub decreases-loop-at : goal.decreases-loop-at
decreases-loop-at l = l.left
