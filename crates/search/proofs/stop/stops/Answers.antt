-- `search::stop::stops` meets its contract: the invariant is the walk.
-- Assumes nothing.
use Rattle.search.proofs.stop.StopWalk.{walk_there, walk_ends, walk_some, walk_on}
use native.Mathlib.Omega.{arith}
use Rattle.search.proofs.stop.stops.Goals as goal

pub returns-in_default : goal.returns-in_default
returns-in_default c = walk_ends c.args.plot c.loop-at.invariant c.loop-at-test.true c.in_default.ensures

pub overflow_sub-left : goal.overflow_sub-left
overflow_sub-left c = walk_some c.args.plot c.loop-at.invariant c.loop-at-test.true _ c.in-Some.ensures

pub loop-at-smaller : goal.loop-at-smaller
loop-at-smaller c = omega (arith, walk_some c.args.plot c.loop-at.invariant c.loop-at-test.true _ c.in-Some.ensures)

pub loop-at-preserved : goal.loop-at-preserved
loop-at-preserved c = walk_on c.args.plot c.loop-at.invariant c.loop-at-test.true _ c.in-Some.ensures

pub returns : goal.returns
returns c = walk_there c.loop-at.invariant c.loop-at-test.false
