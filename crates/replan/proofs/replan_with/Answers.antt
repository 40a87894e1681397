-- `replan::replan_with` meets its contract: each way out is one law. Assumes nothing.
use Rattle.replan.proofs.ReplanCases.{held, searchable, plan_there, plan_none, stop_on, steps_small, count_room, listed_front, plan_found}
use Rattle.std.proofs.lemmas.List.{length-take-le}
use native.Mathlib.Omega.{arith}
use mathlib.Core.Path.{sym}
use Rattle.replan.proofs.replan_with.Goals as goal

pub returns-then-head-clause-plan : goal.returns-then-head-clause-plan
returns-then-head-clause-plan c = rw c.answered.ensures (plan_there c.requires.passed c.if-head.true)

pub search-end-requires : goal.search-end-requires
search-end-requires c = searchable c.requires

pub returns-in_default-clause-plan : goal.returns-in_default-clause-plan
returns-in_default-clause-plan c =
    rw c.answered-in_default.ensures (plan_none c.requires.passed c.if-head.false c.search-end.ensures.hunted c.in_default.is)

pub new-plot-requires : goal.new-plot-requires
new-plot-requires c = (held c.requires.passed).placed.sides

pub bounds-learned-at : goal.bounds-learned-at
bounds-learned-at c =
    omega (
      arith,
      stop_on c.requires.passed c.if-head.false c.search-end.ensures.hunted c.in-Some.is,
      (held c.requires.passed).room.learneds,
    )

pub slice_bounds-improve-end : goal.slice_bounds-improve-end
slice_bounds-improve-end c =
    sym (length-take-le _ _ (count_room c.requires.passed c.if-head.false c.search-end.ensures.hunted c.in-Some.is))

pub improve-requires-clause-small : goal.improve-requires-clause-small
improve-requires-clause-small c =
    omega (arith, steps_small c.requires.passed c.if-head.false c.search-end.ensures.hunted c.in-Some.is)

pub improve-requires-clause-listed : goal.improve-requires-clause-listed
improve-requires-clause-listed c =
    let u = c.search-end.ensures.hunted in
    (_, _, (held c.requires.passed).room.learneds, u.sized.costs, listed_front c.requires.passed c.if-head.false u c.in-Some.is)

pub improve-requires-clause-sized : goal.improve-requires-clause-sized
improve-requires-clause-sized c =
    let u = c.search-end.ensures.hunted in
    let e = c.new-plot.ensures.cells in (
      omega (arith, e, stop_on c.requires.passed c.if-head.false u c.in-Some.is),
      omega (arith, e, u.sized.costs),
      omega (arith, e, u.sized.trails),
      omega (arith, e, (held c.requires.passed).room.links),
    )

pub returns-clause-plan : goal.returns-clause-plan
returns-clause-plan c =
    let u = c.search-end.ensures.hunted in
    let e = c.new-plot.ensures.sides in
    let front = listed_front c.requires.passed c.if-head.false u c.in-Some.is in
    rw c.answered-2.ensures
    (plan_found c.requires.passed c.if-head.false u c.in-Some.is _ _ (c.improve.ensures.learned _ _ (held c.requires.passed).room.learneds front)
    (rw (e.0, e.1) at c.improve.ensures.link))
