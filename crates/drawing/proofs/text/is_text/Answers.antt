-- `drawing::text::is_text` meets its contract: the numbers are written, behind them the rows, and the bytes are compared with that
-- (`TextWritten`). A part of either that is all of it does as well, and so does a test of the lengths beside. Assumes nothing.
use Rattle.std.proofs.Common.{rules, ◌∙◌}
use lib.Seq.{take_all}
use Rattle.printing.proofs.Appended.{put_front}
use Rattle.drawing.proofs.text.TextWritten.{roomy, height_room, start_room, goal_room, rows_room, truth_room, text_done, compared_as, compared_long, front_is}
use Rattle.drawing.proofs.text.is_text.Goals as goal

pub put_number-requires-2 : goal.put_number-requires-2
put_number-requires-2 c = height_room _ _ (roomy c.args.head c.requires.0 c.requires.1) _ c.put_number.ensures.text

pub put_number-requires-3 : goal.put_number-requires-3
put_number-requires-3 c = start_room _ _ (roomy c.args.head c.requires.0 c.requires.1) _ c.put_number.ensures.text _ c.put_number-2.ensures.text

pub put_number-requires-4 : goal.put_number-requires-4
put_number-requires-4 c =
    goal_room _ _ (roomy c.args.head c.requires.0 c.requires.1) _ c.put_number.ensures.text _ c.put_number-2.ensures.text _ c.put_number-3.ensures.text

pub put_rows-requires : goal.put_rows-requires
put_rows-requires c =
    let room = roomy c.args.head c.requires.0 c.requires.1 in (
      rows_room _ _ room _ c.put_number.ensures.text _ c.put_number-2.ensures.text _ c.put_number-3.ensures.text _ c.put_number-4.ensures.text,
      truth_room _ _ room,
    )

pub returns : goal.returns
returns c =
    let done = text_done _ _ (roomy c.args.head c.requires.0 c.requires.1) c.put_number.ensures.text c.put_number-2.ensures.text c.put_number-3.ensures.text
    c.put_number-4.ensures.text c.put_rows.ensures.text in
    let all = c.text.ensures ∙ put_front done in
    search (rules, take_all, all, front_is all, compared_as c.args.bytes.now, compared_long {s = c.args.bytes.now} done.behind) depth 4
