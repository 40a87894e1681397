-- Text on a page of lent bytes.
use Rattle.std.specs.Prelude.{ℕ, ◌≡◌, List}
use Rattle.printing.specs.Text.{Put}
use Rattle.printing.specs.declared.Page.{Page}

-- the text stands behind what was written, and is written too
abbrev pub Writes : (text : List ℕ) (old new : Page) → Type 0
Writes text old new = Put old.length text old.bytes.now new.length new.bytes.now

-- the bytes are the same reference
abbrev pub SamePage : (old new : Page) → Type 0
SamePage old new = new.bytes.ghost_name ≡ old.bytes.ghost_name
