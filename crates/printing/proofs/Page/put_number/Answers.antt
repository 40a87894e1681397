-- `printing::Page::put_number` meets its contract: the character stands behind the digits (`Appended`). Assumes nothing.
use Rattle.printing.proofs.Appended.{number_room, number_done}
use Rattle.printing.proofs.Page.put_number.Goals as goal

pub put_byte-requires : goal.put_byte-requires
put_byte-requires c = number_room _ c.put_decimal.ensures.text c.requires

pub returns-clause-text : goal.returns-clause-text
returns-clause-text c = number_done _ c.put_decimal.ensures.text c.requires _ c.put_byte.ensures.text
