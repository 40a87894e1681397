-- `replan::learn::raise` meets its contract: before each iteration the list is raised along the entries so far, and along all of them it is
-- raised over all cells (`RaiseLaws`): it goes along the list that is lent, or, as `whole` has it, along a part that is all of it. Assumes
-- nothing.
use Rattle.replan.proofs.learn.RaiseLaws.{raise_begin, raise_next, raise_whole, whole}
use Rattle.std.proofs.Common.{rules}
use native.Mathlib.Omega.{arith}
use Rattle.replan.proofs.learn.raise.Goals as goal

pub loop-x-init : goal.loop-x-init
loop-x-init c = raise_begin _

pub loop-x-preserved : goal.loop-x-preserved
loop-x-preserved c = raise_next _ c.loop-x.invariant c.left_at.ensures

pub returns : goal.returns
returns c = λ n mark room a. raise_whole c.loop-x.invariant a (search (rules, whole)) (search (rules, arith)) room
