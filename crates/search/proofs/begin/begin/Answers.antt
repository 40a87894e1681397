-- `search::begin::begin` meets its contract. Each list is filled as `begun` has it, whichever way its first entries are lent: `filled_to` is for
-- a front, `filled_mid` for a part that may begin behind the first. Assumes nothing.
use Rattle.std.proofs.Common.{rules}
use Rattle.model.proofs.Lists.Filled.{filled_to, filled_mid}
use Rattle.search.proofs.begin.BeginLaws.{cart_waits}
use Rattle.search.proofs.begin.begin.Goals as goal

pub returns-clause-begun : goal.returns-clause-begun
returns-clause-begun c =
    let s = c.requires.sized in
    rw (c.push.ensures.same.cells, c.push.ensures.waiting)
    (cart_waits c.requires _ _ _ (search (rules, filled_to, filled_mid))
    c.unsee.ensures (search (rules, filled_to, filled_mid))
    _ c.key_of-k.ensures _ _ c.push.ensures.keys)
