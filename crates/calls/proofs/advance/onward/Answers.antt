-- `calls::advance::onward` meets its contract: at each return the tests that led there pick the case of `moved` (`MoveCases`). Assumes nothing.
use Rattle.std.proofs.Common.{rules}
use mathlib.Core.Path.{sym, ◌∙◌}
use native.Mathlib.Omega.{arith}
use Rattle.model.proofs.Grid.RouteLaws.{leads_ahead}
use Rattle.grid.proofs.CellLaws.{on_plot, some_on}
use Rattle.calls.proofs.advance.MoveCases.{accepts_walkable, move_there, move_lost, move_goes}
use Rattle.calls.proofs.advance.onward.Goals as goal

pub returns-then-cell-head : goal.returns-then-cell-head
returns-then-cell-head c = move_there _ _ c.requires c.if-cell-head.true

pub new-plot-requires : goal.new-plot-requires
new-plot-requires c = (accepts_walkable _ _ c.requires).sides

pub leads-requires : goal.leads-requires
leads-requires c = rw (c.new-plot.ensures.sides.0, c.new-plot.ensures.sides.1) (accepts_walkable _ _ c.requires)

pub returns-then-not-leads : goal.returns-then-not-leads
returns-then-not-leads c =
    move_lost _ _ c.requires _ c.if-cell-head.false
    (rw (c.new-plot.ensures.sides.0, c.new-plot.ensures.sides.1) at c.leads.ensures) c.if-not-leads.true

pub bounds-link-cell : goal.bounds-link-cell
bounds-link-cell c = omega (arith, (accepts_walkable _ _ c.requires).inside, (accepts_walkable _ _ c.requires).links)

pub ahead_of-requires : goal.ahead_of-requires
ahead_of-requires c =
    rw (c.new-plot.result.product, c.new-plot.ensures.sides.0, c.new-plot.ensures.sides.1) (accepts_walkable _ _ c.requires).inside

pub unwrap-next-requires : goal.unwrap-next-requires
unwrap-next-requires c =
    let inside = leads_ahead _ _ _ _ _ _ _ (sym c.leads.ensures ∙ c.if-not-leads.false) c.if-cell-head.false in
    rw (c.ahead_of.ensures ∙ sym (on_plot _ _ (rw c.new-plot.result.product inside))) (search rules)

pub bounds-link-cell-2 : goal.bounds-link-cell-2
bounds-link-cell-2 c = omega (arith, (accepts_walkable _ _ c.requires).inside, (accepts_walkable _ _ c.requires).links)

pub returns : goal.returns
returns c =
    move_goes _ _ c.requires _ _ _ c.if-cell-head.false
    (rw (c.new-plot.ensures.sides.0, c.new-plot.ensures.sides.1) at c.leads.ensures)
    c.if-not-leads.false
    (rw (c.new-plot.ensures.sides.0, c.new-plot.ensures.sides.1) at (some_on (sym c.unwrap-next.ensures ∙ c.ahead_of.ensures)).same) c.moved_to.ensures
