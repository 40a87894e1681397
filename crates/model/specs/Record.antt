-- The record: its bytes for a state, and the state that bytes hold.
use Rattle.std.specs.Prelude.{ℕ, zero, suc, ◌+◌, ◌*◌, ◌/◌, ◌%◌, ◌^◌, Bool, true, false, cond, ◌&&◌, List, [], ◌∷◌, ◌++◌, length, get_or, take, drop}
use Rattle.std.specs.Prelude.{replicate, ltb, eqb}
use Rattle.model.specs.Lists.{filled, gathered}
use Rattle.model.specs.Lent.{Lent, lent_with}
use Rattle.model.specs.Head.{head_at, cells_of}
use Rattle.model.specs.declared.Head.{Head}

-- Writing ----------------------------------------------------------------------------------------------------------------------

-- "Numbers are big-endian": two bytes
abbrev pub big : ℕ → List ℕ
big x = x / 256 ∷ x % 256 ∷ []

-- "one byte tag, two bytes length (big-endian), the bytes"
abbrev pub field : (tag : ℕ) → List ℕ → List ℕ
field tag bytes = (tag ∷ big (length bytes)) ++ bytes

-- "ground, ceil(N/8) bytes, .."
abbrev pub ground_size : ℕ → ℕ
ground_size n = (n + 7) / 8

-- "cell k is bit k mod 8 (bit 0 the lowest) of byte k div 8, spare bits 0": the lowest m bits of byte j
unfoldable pub low_bits : (n : ℕ) (ground : List ℕ) (j m : ℕ) → ℕ
low_bits n ground j zero = 0
low_bits n ground j (suc m) = low_bits n ground j m + cond (ltb (8 * j + m) n) (get_or ground (8 * j + m) 0 * 2 ^ m) 0

unfoldable pub ground_byte : (n : ℕ) (ground : List ℕ) (j : ℕ) → List ℕ
ground_byte n ground j = low_bits n ground j 8 ∷ []

unfoldable pub learned_bytes : (learned : List ℕ) (c : ℕ) → List ℕ
learned_bytes learned c = big (get_or learned c 0)

-- "Fields in this order, each once, nothing after"
unfoldable pub record_of : Head → Lent → List ℕ
record_of head p =
    let n = cells_of head in
    field 1 (head.width ∷ []) ++ (field 2 (head.height ∷ []) ++ (field 3 (big head.goal) ++ (field 4 (big head.cell)
    ++ (field 5 (gathered (ground_size n) (ground_byte n p.ground))
    ++ (field 6 (gathered n (learned_bytes p.learned))
    ++ field 7 (take n p.link))))))

-- Where each field begins, and the whole length ----------------------------------------------------------------------------------

-- the next field's place behind a field of this many bytes
abbrev pub past : (at size : ℕ) → ℕ
past at size = at + (3 + size)

abbrev pub width_at : ℕ
width_at = 0

abbrev pub height_at : ℕ
height_at = past width_at 1

abbrev pub goal_at : ℕ
goal_at = past height_at 1

abbrev pub cell_at : ℕ
cell_at = past goal_at 2

abbrev pub ground_at : ℕ
ground_at = past cell_at 2

abbrev pub learned_at : ℕ → ℕ
learned_at n = past ground_at (ground_size n)

abbrev pub link_at : ℕ → ℕ
link_at n = past (learned_at n) (2 * n)

abbrev pub record_length : ℕ → ℕ
record_length n = past (link_at n) n

-- Reading: "Each field's bytes are read as a part beginning where the field begins" -----------------------------------------------

-- byte k of the field with which a part begins, and the two-byte number there
abbrev pub byte_of : (part : List ℕ) (k : ℕ) → ℕ
byte_of part k = get_or part (3 + k) 0

abbrev pub big_of : (part : List ℕ) (k : ℕ) → ℕ
big_of part k = byte_of part k * 256 + byte_of part (k + 1)

-- bit k of that field
abbrev pub bit_of : (part : List ℕ) (k : ℕ) → ℕ
bit_of part k = byte_of part (k / 8) / 2 ^ (k % 8) % 2

abbrev pub width_of : List ℕ → ℕ
width_of bytes = byte_of (drop width_at bytes) 0

abbrev pub height_of : List ℕ → ℕ
height_of bytes = byte_of (drop height_at bytes) 0

unfoldable pub head_of : List ℕ → Head
head_of bytes = head_at (width_of bytes) (height_of bytes) (big_of (drop goal_at bytes) 0) (big_of (drop cell_at bytes) 0)

unfoldable pub ground_in : (bytes : List ℕ) (c : ℕ) → ℕ
ground_in bytes c = bit_of (drop ground_at bytes) c

unfoldable pub learned_in : (n : ℕ) (bytes : List ℕ) (c : ℕ) → ℕ
learned_in n bytes c = big_of (drop (learned_at n) bytes) (2 * c)

unfoldable pub link_in : (n : ℕ) (bytes : List ℕ) (c : ℕ) → ℕ
link_in n bytes c = byte_of (drop (link_at n) bytes) c

-- "sets the first N entries of ground, learned and link"
unfoldable pub read_into : (n : ℕ) (bytes : List ℕ) → Lent → Lent
read_into n bytes p =
    lent_with (filled n (ground_in bytes) p.ground) (filled n (learned_in n bytes) p.learned)
    (filled n (link_in n bytes) p.link)

-- Form ----------------------------------------------------------------------------------------------------------------------------

unfoldable pub same : List ℕ → List ℕ → Bool
same [] [] = true
same [] (y ∷ ys) = false
same (x ∷ xs) [] = false
same (x ∷ xs) (y ∷ ys) = eqb x y && same xs ys

-- the first two fields are in form: they are the fields of the sides read out of them
unfoldable pub sides_formed : List ℕ → Bool
sides_formed bytes = same (take goal_at bytes) (field 1 (width_of bytes ∷ []) ++ field 2 (height_of bytes ∷ []))

-- lists of n zeros to read into
abbrev pub room_for : ℕ → Lent
room_for n = lent_with (replicate n 0) (replicate n 0) (replicate n 0)

-- all fields are in form: the bytes are the record of the state read out of them, to the last byte. (What is missing reads
-- as 0, and then the record is longer than the bytes.)
unfoldable pub formed : List ℕ → Bool
formed bytes =
    let n = cells_of (head_of bytes) in
    same bytes (record_of (head_of bytes) (read_into n bytes (room_for n)))
