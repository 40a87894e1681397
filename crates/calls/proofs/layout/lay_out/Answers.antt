-- `calls::layout::lay_out` meets its contract: each list is filled, whichever way its first entries are lent (`Filled`), and together they are a
-- fresh layout (`AcceptedCases`). Assumes nothing.
use Rattle.std.proofs.Common.{rules}
use Rattle.model.proofs.Lists.Filled.{filled_to, filled_mid}
use Rattle.calls.proofs.AcceptedCases.{layout_done}
use Rattle.model.proofs.Calls.LayoutLaws.{layout_passed}
use Rattle.calls.proofs.layout.lay_out.Goals as goal

pub returns : goal.returns
returns c =
    let room = (layout_passed _ _ _ _ _ c.requires).1 in
    let n = c.new-plot.ensures.cells in
    layout_done _ _ _ _ _ _ _ _ _ _ c.requires n c.new.ensures
    (search (rules, filled_to, filled_mid))
    (rw c.new-plot.ensures.sides.0 at c.fill_rows.ensures)
    (search (rules, filled_to, filled_mid))
