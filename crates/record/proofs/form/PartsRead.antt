-- What the readers of parts answer, put together: the head, and the state that bytes hold.
-- Assumes nothing.
use mathlib.Core.Path.{◌≡◌, refl, ap, ◌∙◌}
use mathlib.Core.List.{List}
use Prim.Native.Nat.{ℕ, ◌-◌}
use native.Mathlib.Omega.{arith}
use lib.ListN.{length, take, drop, length-drop}
use lib.Seq.{take_all}
use Rattle.model.specs.Lists.{filled}
use Rattle.model.specs.Lent.{Lent, lent_with}
use Rattle.model.specs.Record.{width_at, height_at, ground_at, learned_at, link_at, byte_of, head_of}
use Rattle.model.specs.Record.{ground_in, learned_in, link_in, read_into}
use Rattle.record.specs.Cells.{bit_at, big_at, byte_at}

-- the part of the bytes from a place on, as it is lent
abbrev pub from : List ℕ → ℕ → List ℕ
from bytes at = take (length bytes - at) (drop at bytes)

tail_is : (bytes : List ℕ) (at : ℕ) → from bytes at ≡ drop at bytes
tail_is bytes at = take_all (length bytes - at) (drop at bytes) (omega (arith, length-drop at bytes))

-- The head and the state -------------------------------------------------------------------------------------------------------------

module _ (bytes : List ℕ) where
  pub width_by : {w : ℕ} → w ≡ byte_of (from bytes width_at) 0 → w ≡ (head_of bytes).width
  unfolding head_of
  width_by e = e ∙ ap (λ (b : List ℕ). byte_of b 0) (tail_is bytes width_at)

  pub height_by : {h : ℕ} → h ≡ byte_of (from bytes height_at) 0 → h ≡ (head_of bytes).height
  unfolding head_of
  height_by e = e ∙ ap (λ (b : List ℕ). byte_of b 0) (tail_is bytes height_at)

  -- a list read out of the part from `at` on, where the field begins
  part_by : (n at place : ℕ) (cell : List ℕ → ℕ → ℕ) (l : List ℕ) {put : List ℕ} → at ≡ place → put ≡ filled n (cell (from bytes at)) l
      → put ≡ filled n (cell (drop place bytes)) l
  part_by n at place cell l i e = e ∙ ap (λ (b : List ℕ). filled n (cell b) l) (tail_is bytes at ∙ ap (λ (x : ℕ). drop x bytes) i)

  pub read_by : (n : ℕ) (p : Lent) (ground learned link : List ℕ) {at end : ℕ} → at ≡ learned_at n → end ≡ link_at n
      → ground ≡ filled n (bit_at (from bytes ground_at)) p.ground
      → learned ≡ filled n (big_at (from bytes at)) p.learned → link ≡ filled n (byte_at (from bytes end)) p.link
      → lent_with ground learned link ≡ read_into n bytes p
  unfolding read_into ground_in learned_in link_in bit_at big_at byte_at
  read_by n p ground learned link {at} {end} i j e f h =
      rw (
        part_by n ground_at ground_at bit_at p.ground refl e,
        part_by n at (learned_at n) big_at p.learned i f,
        part_by n end (link_at n) byte_at p.link j h,
      )
