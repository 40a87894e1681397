-- The head: width, height, goal, cart's cell.
use Rattle.std.specs.Prelude.{ℕ, List, [], ◌∷◌}
use Rattle.model.specs.Plot.{cells}
use Rattle.model.specs.declared.Head.{Head}

abbrev pub head_at : (w h goal cell : ℕ) → Head
head_at w h goal cell = record { width = w; height = h; goal = goal; cell = cell }

-- "Layout and load, which are given no head, return one of zeros"
abbrev pub no_head : Head
no_head = head_at 0 0 0 0

-- the same head with the cart on another cell, and with another goal
abbrev pub moved_to : Head → ℕ → Head
moved_to head c = head_at head.width head.height head.goal c

abbrev pub aimed_at : Head → ℕ → Head
aimed_at head c = head_at head.width head.height c head.cell

-- N
abbrev pub cells_of : Head → ℕ
cells_of head = cells head.width head.height

-- the cells that a head names
abbrev pub cells_named : Head → List ℕ
cells_named head = head.goal ∷ head.cell ∷ []
