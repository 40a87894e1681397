-- `calls::list::fill_route` meets its contract: the walk has as many steps as the cart's learned value (`ListCases`). Assumes nothing.
use mathlib.Core.Path.{refl}
use Rattle.calls.proofs.list.ListCases.{list_accepts, list_writable, list_filled}
use native.Mathlib.Omega.{arith}
use Rattle.model.proofs.Calls.Acceptance.{cells_few}
use Rattle.calls.proofs.advance.MoveCases.{accepts_walkable}
use Rattle.calls.proofs.list.fill_route.Goals as goal

pub offset_bounds-learned-head : goal.offset_bounds-learned-head
offset_bounds-learned-head c =
    let walk = accepts_walkable _ _ (list_accepts _ _ _ c.requires) in omega (arith, walk.inside, cells_few _ _ walk.sides)

pub bounds-learned-head : goal.bounds-learned-head
bounds-learned-head c =
    let walk = accepts_walkable _ _ (list_accepts _ _ _ c.requires) in omega (arith, walk.inside, walk.learneds)

pub new-plot-requires : goal.new-plot-requires
new-plot-requires c = (accepts_walkable _ _ (list_accepts _ _ _ c.requires)).sides

pub follow-requires : goal.follow-requires
follow-requires c = let s = c.new-plot.ensures.sides in rw (s.0, s.1) (list_writable _ _ _ c.requires)

pub returns : goal.returns
returns c = let s = c.new-plot.ensures.sides in list_filled _ _ _ _ _ c.requires refl (rw (s.0, s.1) at c.follow.ensures)
