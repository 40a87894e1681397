-- `grid::plot::Plot::leads` meets its contract. The invariant: what links say from here with what is left is what they said at
-- first. Assumes nothing.
use Rattle.grid.proofs.CellLaws.{some_on}
use Rattle.grid.proofs.LinkWalk.{leads_here, leads_ends, leads_descends}
use native.Mathlib.Omega.{arith}
use mathlib.Core.Path.{sym, ◌∙◌}
use Rattle.grid.proofs.plot.Plot.leads.Goals as goal
use Rattle.grid.proofs.plot.Plot.leads.Goals.{In-Some}

pub returns-in_default : goal.returns-in_default
returns-in_default c = sym (leads_ends c.args.self _ _ _ _ _ c.loop-at-test.true c.in_default.ensures) ∙ c.loop-at.invariant.1

pub overflow_sub-left : goal.overflow_sub-left
overflow_sub-left c = (leads_descends c.args.self _ _ _ _ _ _ c.loop-at-test.true c.in-Some.ensures).some

pub loop-at-smaller : goal.loop-at-smaller
loop-at-smaller c = omega (arith, (leads_descends c.args.self _ _ _ _ _ _ c.loop-at-test.true c.in-Some.ensures).some)

pub loop-at-preserved : goal.loop-at-preserved
loop-at-preserved c =
    let t = leads_descends c.args.self _ _ _ _ _ _ c.loop-at-test.true c.in-Some.ensures in
    ((some_on c.in-Some.ensures).inside, t.same ∙ c.loop-at.invariant.1)

pub returns : goal.returns
returns c = sym (leads_here _ _ _ _ _ _ _ c.loop-at-test.false) ∙ c.loop-at.invariant.1
