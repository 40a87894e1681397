-- `search::begin::unsee` meets its contract: before each iteration the first `c` entries have the cost of an unseen cell (`FillLoop`).
-- Assumes nothing.
use Rattle.model.specs.Lists.{each}
use Rattle.model.specs.Search.{unseen_cost}
use Rattle.model.proofs.Lists.FillLoop.{Filled}
use Rattle.search.proofs.begin.unsee.Given as goal

abbrev pub invariant-loop-c : goal.invariant-loop-c
invariant-loop-c l = Filled (each unseen_cost) l.c l.initial.cost l.cost
