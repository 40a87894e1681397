-- What is read out of a part that begins with a field, cell by cell; and the steps by which it is read.
use Rattle.std.specs.Prelude.{ℕ, ◌+◌, ◌*◌, ◌/◌, ◌%◌, ◌^◌, ◌<◌, ◌≡◌, List, set}
use Rattle.model.specs.Record.{byte_of, big_of, bit_of}

-- ground, learned and link of cell c
unfoldable pub bit_at : (part : List ℕ) (c : ℕ) → ℕ
bit_at part c = bit_of part c

unfoldable pub big_at : (part : List ℕ) (c : ℕ) → ℕ
big_at part c = big_of part (2 * c)

unfoldable pub byte_at : (part : List ℕ) (c : ℕ) → ℕ
byte_at part c = byte_of part c

-- bit i of v is byte i of x, of four
pub record Spread (v x : ℕ) : Type 0 where
  pub bits : (i : ℕ) → i < 4 → x / 256 ^ i % 256 ≡ v / 2 ^ i % 2

-- l with the four bytes of x from place c on, the lowest first
unfoldable pub four_put : (x c : ℕ) (l : List ℕ) → List ℕ
four_put x c l = set (set (set (set l c (x % 256)) (c + 1) (x / 256 % 256)) (c + 2) (x / 65536 % 256)) (c + 3) (x / 16777216 % 256)
