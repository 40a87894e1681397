-- Whether bytes are a record, field by field: what is tested of each part that begins where a field begins, as Booleans
-- that compute. All together they say what `sides_formed` and `formed` say (proofs/form/FormIs).
use Rattle.std.specs.Prelude.{ℕ, ◌*◌, ◌/◌, ◌%◌, ◌^◌, ◌≡◌, Bool, false, not, ◌&&◌, ◌||◌, List, length, get_or, drop, leb, eqb, Ok}
use Rattle.model.specs.Plot.{bad_sides}
use Rattle.model.specs.Head.{cells_of}
use Rattle.model.specs.Refusals.{refuse_if}
use Rattle.model.specs.Record.{ground_size, width_at, height_at, goal_at, cell_at, ground_at, learned_at, link_at, record_length, byte_of, head_of}
use Rattle.model.specs.declared.Head.{Head}
use Rattle.model.specs.declared.Reason.TheVariants.{Sides, Form}
use Rattle.model.specs.Verdict.{Verdict}

-- "one byte tag, two bytes length (big-endian)": the part begins as a field of this many bytes does
unfoldable pub begins : (tag size : ℕ) (part : List ℕ) → Bool
begins tag size part =
    leb 3 (length part)
    && (eqb (get_or part 0 0) tag && (eqb (get_or part 1 0) (size / 256) && eqb (get_or part 2 0) (size % 256)))

-- "spare bits 0": where N is no multiple of 8, the last byte of the ground has no bit from N mod 8 on
unfoldable pub spare_clear : (n : ℕ) (part : List ℕ) → Bool
spare_clear n part = eqb (n % 8) 0 || eqb (byte_of part (n / 8) / 2 ^ (n % 8)) 0

-- the first two fields
unfoldable pub sides_test : (bytes : List ℕ) → Bool
sides_test bytes = leb goal_at (length bytes) && (begins 1 1 (drop width_at bytes) && begins 2 1 (drop height_at bytes))

-- the rest, of a record of n cells: "nothing after", and each field where the one before it ends
unfoldable pub rest_test : (n : ℕ) (bytes : List ℕ) → Bool
rest_test n bytes =
    eqb (length bytes) (record_length n)
    && (begins 3 2 (drop goal_at bytes)
    && (begins 4 2 (drop cell_at bytes)
    && (begins 5 (ground_size n) (drop ground_at bytes)
    && (spare_clear n (drop ground_at bytes)
    && (begins 6 (2 * n) (drop (learned_at n) bytes)
    && begins 7 n (drop (link_at n) bytes))))))

unfoldable pub fields_formed : (bytes : List ℕ) → Bool
fields_formed bytes = sides_test bytes && rest_test (cells_of (head_of bytes)) bytes

-- "8 for the first two fields, 1, 8 for the rest"
unfoldable pub form_check : (bytes : List ℕ) → Verdict
form_check bytes =
    refuse_if (not (sides_test bytes)) Form
    (refuse_if (bad_sides (head_of bytes).width (head_of bytes).height) Sides
    (refuse_if (not (rest_test (cells_of (head_of bytes)) bytes)) Form (Ok tt)))

-- what they leave: good sides, and as many bytes as a record of so many cells has
pub record Formed (head : Head) (bytes : List ℕ) : Type 0 where
  pub sides : bad_sides head.width head.height ≡ false
  pub long : length bytes ≡ record_length (cells_of head)
