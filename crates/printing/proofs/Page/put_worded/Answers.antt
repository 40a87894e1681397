-- `printing::Page::put_worded` meets its contract: the number stands behind the words (`Appended`). Assumes nothing.
use Rattle.printing.proofs.Appended.{put_then}
use native.Mathlib.Omega.{arith}
use Rattle.printing.proofs.Page.put_worded.Goals as goal

pub returns-clause-text : goal.returns-clause-text
returns-clause-text c = put_then c.put_words.ensures.text c.put_number.ensures.text (omega (arith, c.requires))
