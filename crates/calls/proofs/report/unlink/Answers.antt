-- `calls::report::unlink` meets its contract: before each iteration the links in the directions before `d` are cut, and in all four they are
-- the links once the cell is blocked (`CutLinks`). Assumes nothing.
use lib.ListN.{length-set}
use Rattle.grid.proofs.CellLaws.{some_on, none_off}
use Rattle.calls.proofs.report.CutLinks.{cut_begin, cut_there, cut_nowhere, cut_end}
use native.Mathlib.Omega.{arith}
use mathlib.Core.Path.{sym, ◌∙◌}
use Rattle.calls.proofs.report.unlink.Goals.{in-Some, in_default}
use Rattle.calls.proofs.report.unlink.Goals as goal

pub loop-d-init : goal.loop-d-init
loop-d-init c = cut_begin _ _ _ _

pub cut_at-requires : goal.cut_at-requires
cut_at-requires c =
    let inside = (some_on (sym c.in-Some.is ∙ c.ahead.ensures)).inside in
    let long = rw length-set at c.loop-d.auto.link in
    omega (arith, inside, c.requires.0, c.requires.1, long)

pub loop-d-preserved : goal.loop-d-preserved
loop-d-preserved c = elim c.match-ahead.branch [
  | in-Some w ↦
      let on = some_on (sym w.in-Some.is ∙ c.ahead.ensures) in
      cut_there c.loop-d.auto.d c.loop-d.invariant _ _ _ on.same w.opposite.ensures
      (w.link-is ∙ w.cut_at.ensures _ (rw c.args.plot.product at on.inside))
  | in_default w ↦
      rw w.link-is (cut_nowhere c.loop-d.auto.d c.loop-d.invariant
      (rw c.args.plot.product at (none_off (sym w.in_default.is ∙ c.ahead.ensures))))
]

pub returns : goal.returns
returns c =
    cut_end _ _ _ c.args.plot.wide (rw c.args.plot.product at c.requires.0) _ (rw c.args.plot.product at c.requires.1)
    c.loop-d.invariant (omega (arith, c.loop-d.auto.d-end, c.loop-d-test.false))
