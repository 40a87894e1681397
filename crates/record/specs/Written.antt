-- What callers show before a record is written, field by field; and a byte of eight cells.
use Rattle.std.specs.Prelude.{ℕ, ◌+◌, ◌*◌, ◌/◌, ◌%◌, ◌≤◌, ◌<◌, ◌≡◌, false, List, [], ◌∷◌, ◌++◌, length, get_or, set}
use Rattle.model.specs.Plot.{bad_sides}
use Rattle.model.specs.Head.{cells_of}
use Rattle.model.specs.Record.{big, field, ground_at}
use Rattle.model.specs.declared.Head.{Head}

-- the first n cells are there, and each is a bit
pub record Packable (n : ℕ) (ground : List ℕ) : Type 0 where
  pub room : n ≤ length ground
  pub bits : (c : ℕ) → c < n → get_or ground c 0 ≤ 1

-- the eight cells from c on as bits of a byte, the first the lowest
unfoldable pub eight_bits : (ground : List ℕ) (c : ℕ) → ℕ
eight_bits ground c =
    get_or ground c 0 + 2 * get_or ground (c + 1) 0 + 4 * get_or ground (c + 2) 0 + 8 * get_or ground (c + 3) 0
    + 16 * (get_or ground (c + 4) 0 + 2 * get_or ground (c + 5) 0 + 4 * get_or ground (c + 6) 0 + 8 * get_or ground (c + 7) 0)

-- l with the two bytes of x from place c on, the high one first
unfoldable pub pair_put : (x c : ℕ) (l : List ℕ) → List ℕ
pair_put x c l = set (set l c (x / 256)) (c + 1) (x % 256)

-- the head's numbers fit their fields, and these fit the buffer
pub record Headable (head : Head) (buffer : List ℕ) : Type 0 where
  pub sides : bad_sides head.width head.height ≡ false
  pub goal_on : head.goal < cells_of head
  pub cart_on : head.cell < cells_of head
  pub room : ground_at ≤ length buffer

-- the record's first four fields
unfoldable pub head_fields : Head → List ℕ
head_fields head =
    field 1 (head.width ∷ []) ++ field 2 (head.height ∷ []) ++ field 3 (big head.goal) ++ field 4 (big head.cell)
