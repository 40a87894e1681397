-- `replan::learn::raise` meets its contract: before each iteration the list is raised along the entries so far, and along all of them it is
-- raised over all cells (`RaiseLaws`). Assumes nothing.
use Rattle.replan.proofs.learn.RaiseLaws.{Raised}
use Rattle.replan.proofs.learn.raise.Given as goal

abbrev pub invariant-loop-x : goal.invariant-loop-x
invariant-loop-x l = Raised l.steps l.cost l.list l.x-index l.initial.learned l.learned
