-- `drawing::text::put_row` meets its contract: before each iteration the first cells of the row stand (`TextWritten`). Assumes nothing.
use Rattle.drawing.specs.Drawing.{cell_text}
use Rattle.printing.specs.Pages.{Writes, SamePage}
use Rattle.model.specs.Lists.{gathered}
use Rattle.drawing.proofs.text.put_row.Given as goal

abbrev pub invariant-loop-cell : goal.invariant-loop-cell
invariant-loop-cell l = record {
  text : Writes (gathered l.cell-index (cell_text l.w l.truth l.row)) l.initial.page l.page;
  same : SamePage l.initial.page l.page;
}
