-- `printing::Page::put_plan` meets its contract: two numbers behind the words (`PlanLine`). Assumes nothing.
use Rattle.printing.proofs.lines.PlanLine.{plan_room, plan_done}
use Rattle.printing.proofs.Page.put_plan.Goals as goal

pub put_number-requires-2 : goal.put_number-requires-2
put_number-requires-2 c = plan_room _ c.put_words.ensures.text c.put_number.ensures.text c.requires

pub returns-clause-text : goal.returns-clause-text
returns-clause-text c = plan_done _ c.put_words.ensures.text c.put_number.ensures.text c.requires _ c.put_number-2.ensures.text
