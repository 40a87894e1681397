-- `calls::list::list_rest` meets its contract: at each return the tests that led there pick the verdict (`ListCases`). Assumes nothing.
use native.Mathlib.Omega.{arith}
use Rattle.model.proofs.Calls.Acceptance.{cells_few}
use Rattle.calls.proofs.list.ListCases.{list_lost, list_short, list_passes}
use Rattle.calls.proofs.advance.MoveCases.{accepts_walkable}
use Rattle.calls.proofs.list.list_rest.Goals as goal

pub offset_bounds-learned-head : goal.offset_bounds-learned-head
offset_bounds-learned-head c = omega (arith, (accepts_walkable _ _ c.requires).inside, cells_few _ _ (accepts_walkable _ _ c.requires).sides)

pub bounds-learned-head : goal.bounds-learned-head
bounds-learned-head c =
    omega (arith, (accepts_walkable _ _ c.requires).inside, (accepts_walkable _ _ c.requires).learneds)

pub stands-stood-requires : goal.stands-stood-requires
stands-stood-requires c = accepts_walkable _ _ c.requires

pub returns-then-not-stood : goal.returns-then-not-stood
returns-then-not-stood c = list_lost _ _ c.requires _ _ c.stands-stood.ensures c.if-not-stood.true

pub returns-then-buffer-steps : goal.returns-then-buffer-steps
returns-then-buffer-steps c = list_short _ _ c.requires _ _ c.stands-stood.ensures c.if-not-stood.false c.if-buffer-steps.true

pub returns : goal.returns
returns c = list_passes _ _ c.requires _ _ c.stands-stood.ensures c.if-not-stood.false c.if-buffer-steps.false
