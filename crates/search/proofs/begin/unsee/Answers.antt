-- `search::begin::unsee` meets its contract: before each iteration the first `c` entries have the cost of an unseen cell (`FillLoop`).
-- Assumes nothing.
use Rattle.model.specs.Lists.{each}
use Rattle.model.specs.Search.{unseen_cost}
use Rattle.model.proofs.Lists.FillLoop.{fill_begin, fill_at}
use mathlib.Core.Path.{refl}
use native.Mathlib.Omega.{arith}
use Rattle.search.proofs.begin.unsee.Goals as goal

pub loop-c-init : goal.loop-c-init
loop-c-init c = fill_begin (each unseen_cost) _

pub loop-c-preserved : goal.loop-c-preserved
loop-c-preserved c = fill_at _ _ c.loop-c.invariant (omega arith) refl
