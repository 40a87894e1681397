-- Whole bytes of the ground: two fours of cells are a byte.
-- Assumes nothing.
use Prim.Native.Nat.{ℕ, ◌+◌, ◌*◌, ◌≤◌}
use mathlib.Core.Path.{◌≡◌, ap}
use mathlib.Core.List.{List}
use native.Mathlib.Nat.{add-zero}
use native.Mathlib.Omega.{arith}
use lib.ListN.{get_or}
use Rattle.model.specs.Record.{low_bits}
use Rattle.record.specs.Written.{eight_bits}
use Rattle.record.proofs.save.BitByBit.{bit_more, pack_begin}

-- all eight cells of byte j are on the plot
pub whole_byte : (n : ℕ) (ground : List ℕ) (j : ℕ) → 8 * j + 8 ≤ n → eight_bits ground (8 * j) ≡ low_bits n ground j 8
unfolding eight_bits
whole_byte n ground j l =
    let m = bit_more n ground j in
    let z : get_or ground (8 * j + 0) 0 ≡ get_or ground (8 * j) 0 = ap (λ (c : ℕ). get_or ground c 0) (add-zero (8 * j)) in
    omega (
      arith,
      z,
      (pack_begin n ground j).is,
      m 0 (omega arith),
      m 1 (omega arith),
      m 2 (omega arith),
      m 3 (omega arith),
      m 4 (omega arith),
      m 5 (omega arith),
      m 6 (omega arith),
      m 7 (omega arith),
    )
