-- `search::expand::reach` meets its contract: the queue then holds the key of the new cost. Assumes nothing.
use Rattle.search.proofs.expand.LookLaws.{comes_in, is_lowered, queued_reached}
use mathlib.Core.Path.{refl}
use native.Mathlib.Omega.{arith}
use borrow.Author.Tests.{eqb-true, eqb-false}
use Rattle.search.proofs.expand.reach.Goals as goal

pub put-requires-clause-there : goal.put-requires-clause-there
put-requires-clause-there c =
    let a = c.args in
    let r = c.requires in λ w.
    is_lowered r.agree a.y a.g _ r.inside c.key_of-k.ensures r.cheaper.0 (omega arith) (omega (arith, c.type_inv.learned a.y)) (eqb-true _ _ w)

pub put-requires-clause-away : goal.put-requires-clause-away
put-requires-clause-away c =
    let a = c.args in
    let r = c.requires in λ w. comes_in r.agree a.y a.g _ r.inside c.key_of-k.ensures (omega (arith, c.key_of-k.type_inv)) (eqb-false _ _ w)

pub returns-clause-reached : goal.returns-clause-reached
returns-clause-reached c =
    let a = c.args in
    let r = c.requires in
    rw c.put.ensures.same.cells
    (record { is = refl; queued = queued_reached r.agree a.y a.g _ r.inside c.key_of-k.ensures a.d _ _ _ c.put.ensures.keys })
