-- `calls::list::follow` meets its contract: before each iteration the buffer holds the cells that the walk has left (`RouteWritten`). Assumes
-- nothing.
use Rattle.std.proofs.Common.{rules}
use Rattle.calls.proofs.list.RouteWritten.{onward_here, onward_next, write_next, write_end}
use Rattle.grid.proofs.CellLaws.{on_plot, some_on}
use native.Mathlib.Omega.{arith}
use mathlib.Core.Path.{sym, ◌∙◌}
use Rattle.calls.proofs.list.follow.Goals as goal

pub unwrap-at-requires : goal.unwrap-at-requires
unwrap-at-requires c =
    let inside = onward_here (onward_next c.loop-i.invariant.onward (omega (arith, c.loop-i-test.true))) in
    rw (c.ahead_of.ensures ∙ sym (on_plot _ _ (rw c.args.plot.product inside))) (search rules)

pub loop-i-preserved : goal.loop-i-preserved
loop-i-preserved c = write_next _ c.loop-i.invariant c.loop-i-test.true (some_on (sym c.unwrap-at.ensures ∙ c.ahead_of.ensures)).same

pub returns : goal.returns
returns c = write_end c.loop-i.invariant c.loop-i-test.false c.requires.room
