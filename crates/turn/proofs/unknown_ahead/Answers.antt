-- `turn::unknown_ahead` meets its contract: off the plot, free, known, or unknown (`SightingLaws`). Assumes nothing.
use Rattle.turn.proofs.SightingLaws.{on_head, none_ahead, free_there, known_there, unknown_there}
use Rattle.grid.proofs.CellLaws.{some_on}
use Rattle.std.proofs.Common.{arith, sym, ◌∙◌}
use Rattle.turn.proofs.unknown_ahead.Goals as goal

pub returns-in_err-c : goal.returns-in_err-c
returns-in_err-c c =
    let plot = c.new-plot in
    let sides = plot.ensures.sides in
    let step = on_head c.args.head c.args.d sides.0 sides.1 plot.result.product c.ahead_of.ensures in
    c.from_residual.ensures ∙ none_ahead _ _ _ _ (sym c.in_err-c.was ∙ step)

pub bounds-truth-c : goal.bounds-truth-c
bounds-truth-c c =
    let plot = c.new-plot in
    let sides = plot.ensures.sides in
    let step = on_head c.args.head c.args.d sides.0 sides.1 plot.result.product c.ahead_of.ensures in
    omega (arith, c.requires.truths, (some_on (sym c.in_ok-c.was ∙ step)).inside)

pub returns-then-truth-c-ne1 : goal.returns-then-truth-c-ne1
returns-then-truth-c-ne1 c =
    let plot = c.new-plot in
    let sides = plot.ensures.sides in
    let step = on_head c.args.head c.args.d sides.0 sides.1 plot.result.product c.ahead_of.ensures in
    free_there _ _ _ _ (sym c.in_ok-c.was ∙ step) c.if-truth-c-ne1.true

pub bounds-ground-c : goal.bounds-ground-c
bounds-ground-c c =
    let plot = c.new-plot in
    let sides = plot.ensures.sides in
    let step = on_head c.args.head c.args.d sides.0 sides.1 plot.result.product c.ahead_of.ensures in
    omega (arith, c.requires.grounds, (some_on (sym c.in_ok-c.was ∙ step)).inside)

pub returns-then-ground-c-ne0 : goal.returns-then-ground-c-ne0
returns-then-ground-c-ne0 c =
    let plot = c.new-plot in
    let sides = plot.ensures.sides in
    let step = on_head c.args.head c.args.d sides.0 sides.1 plot.result.product c.ahead_of.ensures in
    known_there _ _ _ _ (sym c.in_ok-c.was ∙ step) c.if-ground-c-ne0.true

pub returns : goal.returns
returns c =
    let plot = c.new-plot in
    let sides = plot.ensures.sides in
    let step = on_head c.args.head c.args.d sides.0 sides.1 plot.result.product c.ahead_of.ensures in
    unknown_there _ _ _ _ (sym c.in_ok-c.was ∙ step) c.if-truth-c-ne1.false c.if-ground-c-ne0.false
