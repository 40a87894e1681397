-- `drawing::text::put_row` meets its contract: before each iteration the first cells of the row stand (`TextWritten`). Assumes nothing.
use Rattle.std.proofs.Common.{◌<◌, arith, refl, ◌∙◌}
use Rattle.drawing.proofs.text.TextWritten.{gather_begin, part_long, part_text, cell_room, cell_next, row_end}
use Rattle.drawing.specs.Drawing.{cell_text}
use Rattle.drawing.proofs.text.put_row.Goals as goal

pub loop-cell-init : goal.loop-cell-init
loop-cell-init c = record { text = gather_begin (cell_text c.args.w c.args.truth.now c.args.row); same = refl }

pub put_byte-requires : goal.put_byte-requires
put_byte-requires c =
    cell_room c.args.w c.args.truth.now c.args.row c.requires.0
    c.loop-cell.cell-index (omega (arith, part_long c.args.w c.args.truth.now c.args.row c.requires.1)) c.loop-cell.invariant.text

pub loop-cell-preserved : goal.loop-cell-preserved
loop-cell-preserved c =
    let inside : c.loop-cell.cell-index < c.args.w = omega (arith, part_long c.args.w c.args.truth.now c.args.row c.requires.1) in record {
      text = cell_next c.args.w c.args.truth.now c.args.row c.requires.0 c.loop-cell.cell-index inside c.loop-cell.invariant.text
          (rw (part_text c.args.w c.args.truth.now c.args.row c.requires.1 c.character.ensures inside) at c.put_byte.ensures.text);
      same = c.put_byte.ensures.same ∙ c.loop-cell.invariant.same;
    }

pub put_byte-requires-2 : goal.put_byte-requires-2
put_byte-requires-2 c =
    cell_room c.args.w c.args.truth.now c.args.row c.requires.0
    c.loop-cell.cell-index (omega (arith, part_long c.args.w c.args.truth.now c.args.row c.requires.1)) c.loop-cell.invariant.text

pub returns-clause-text : goal.returns-clause-text
returns-clause-text c =
    row_end c.args.w c.args.truth.now c.args.row c.requires.0
    c.loop-cell.cell-index (omega (arith, part_long c.args.w c.args.truth.now c.args.row c.requires.1)) c.loop-cell.invariant.text c.put_byte-2.ensures.text
