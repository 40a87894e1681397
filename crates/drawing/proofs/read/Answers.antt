-- `drawing::read` meets its contract: each way out is the definition's answer (`ReadCases`). Assumes nothing.
use Rattle.drawing.proofs.ReadCases.{on_sides_good, on_cells, bad_off, bad_start, bad_looks, drawn, laid, laid_room}
use Rattle.model.proofs.Calls.Acceptance.{cells_few}
use mathlib.Core.Path.{sym, ◌∙◌}
use native.Mathlib.Omega.{arith}
use Rattle.drawing.proofs.read.Goals as goal

pub returns-then-not-on_plot : goal.returns-then-not-on_plot
returns-then-not-on_plot c = bad_off _ c.first_line.ensures.head (sym c.on_plot.ensures ∙ c.if-not-on_plot.true)

pub new-requires : goal.new-requires
new-requires c = on_sides_good _ (sym c.on_plot.ensures ∙ c.if-not-on_plot.false)

pub fill_truth-requires : goal.fill_truth-requires
fill_truth-requires c =
    let sides = on_sides_good _ (sym c.on_plot.ensures ∙ c.if-not-on_plot.false) in
    omega (arith, c.new.ensures.cells, c.requires, cells_few _ _ sides)

pub bounds-truth-head : goal.bounds-truth-head
bounds-truth-head c =
    let on = sym c.on_plot.ensures ∙ c.if-not-on_plot.false in
    let line = c.first_line.ensures in
    let plot = c.new.ensures in
    omega (arith, (on_cells _ on).1, laid_room _ c.args.truth.now line.head line.rows on plot.sides.0 plot.cells c.fill_truth.ensures c.requires)

pub returns-then-truth-head-ne0 : goal.returns-then-truth-head-ne0
returns-then-truth-head-ne0 c =
    let on = sym c.on_plot.ensures ∙ c.if-not-on_plot.false in
    let line = c.first_line.ensures in
    let plot = c.new.ensures in
    bad_start _ (laid _ c.args.truth.now line.head line.rows on plot.sides.0 plot.cells c.fill_truth.ensures c.requires)
    (λ e. omega (arith, e, c.if-truth-head-ne0.true))

pub is_text-requires : goal.is_text-requires
is_text-requires c =
    let on = sym c.on_plot.ensures ∙ c.if-not-on_plot.false in
    let line = c.first_line.ensures in
    let plot = c.new.ensures in
    (on_sides_good _ on, laid_room _ c.args.truth.now line.head line.rows on plot.sides.0 plot.cells c.fill_truth.ensures c.requires)

pub returns-then-is_text : goal.returns-then-is_text
returns-then-is_text c =
    let on = sym c.on_plot.ensures ∙ c.if-not-on_plot.false in
    let line = c.first_line.ensures in
    let plot = c.new.ensures in
    drawn _ (laid _ c.args.truth.now line.head line.rows on plot.sides.0 plot.cells c.fill_truth.ensures c.requires)
    (omega (arith, c.if-truth-head-ne0.false))
    (sym c.is_text.ensures ∙ c.if-is_text.true)

pub returns : goal.returns
returns c =
    let on = sym c.on_plot.ensures ∙ c.if-not-on_plot.false in
    let line = c.first_line.ensures in
    let plot = c.new.ensures in
    bad_looks _ (laid _ c.args.truth.now line.head line.rows on plot.sides.0 plot.cells c.fill_truth.ensures c.requires)
    (omega (arith, c.if-truth-head-ne0.false))
    (sym c.is_text.ensures ∙ c.if-is_text.false)
