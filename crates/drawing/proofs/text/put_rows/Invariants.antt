-- `drawing::text::put_rows` meets its contract: before each iteration the first rows stand (`TextWritten`). Assumes nothing.
use Rattle.drawing.specs.Drawing.{row_text}
use Rattle.printing.specs.Pages.{Writes, SamePage}
use Rattle.model.specs.Lists.{gathered}
use Rattle.drawing.proofs.text.put_rows.Given as goal

abbrev pub invariant-loop-row : goal.invariant-loop-row
invariant-loop-row l = record {
  text : Writes (gathered l.row (row_text l.w l.truth)) l.initial.page l.page;
  same : SamePage l.initial.page l.page;
}
