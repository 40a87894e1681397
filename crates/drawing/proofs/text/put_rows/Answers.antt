-- `drawing::text::put_rows` meets its contract: before each iteration the first rows stand (`TextWritten`). Assumes nothing.
use Rattle.std.proofs.Common.{arith, refl, ◌∙◌}
use Rattle.drawing.proofs.text.TextWritten.{gather_begin, row_room, rows_within, row_next}
use Rattle.drawing.specs.Drawing.{row_text}
use Rattle.drawing.proofs.text.put_rows.Goals as goal

pub loop-row-init : goal.loop-row-init
loop-row-init c = record { text = gather_begin (row_text c.args.w c.args.truth.now); same = refl }

pub put_row-requires : goal.put_row-requires
put_row-requires c = (
  row_room c.args.w c.args.truth.now c.requires.0 c.loop-row.row
      c.loop-row-test.true c.loop-row.invariant.text,
  omega (arith, c.requires.1, rows_within c.args.w c.loop-row-test.true),
)

pub loop-row-preserved : goal.loop-row-preserved
loop-row-preserved c = record {
  text = row_next c.args.w c.args.truth.now c.requires.0 c.loop-row.row
      c.loop-row-test.true c.loop-row.invariant.text c.put_row.ensures.text;
  same = c.put_row.ensures.same ∙ c.loop-row.invariant.same;
}
