-- `printing::Page::put_decimal` meets its contract: the digits are the library's (`Decimal`). Assumes nothing.
use Rattle.std.proofs.Common.{rules, arith, ◌∙◌}
use Rattle.printing.proofs.Appended.{put_as}
use Rattle.printing.proofs.Decimal.{decimal_of}
use Rattle.printing.proofs.Page.put_decimal.Goals as goal

pub returns-clause-text : goal.returns-clause-text
returns-clause-text c = put_as c.put_words.ensures.text (c.as_bytes.ensures.value ∙ c.format.ensures.text ∙ decimal_of _ c.args.n (search rules) (omega arith))
