-- `drawing::first_line` meets its contract: four numbers, one behind the other (`NumberRead`). Assumes nothing.
use Rattle.std.proofs.Common.{◌∙◌}
use Rattle.drawing.proofs.NumberRead.{headed}
use Rattle.drawing.proofs.first_line.Goals as goal

pub returns-clause-head : goal.returns-clause-head
returns-clause-head c =
    c.new.ensures ∙ headed _ c.number-width.ensures.value c.number-width.ensures.rest c.number-height.ensures.value c.number-height.ensures.rest
    c.number-start.ensures.value c.number-start.ensures.rest c.number-goal.ensures.value
