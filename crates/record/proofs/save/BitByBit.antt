-- Cells packed into a byte, from the lowest bit on: what an iteration keeps, and what stands there at the end.
-- Assumes nothing.
use Prim.Native.Nat.{ℕ, zero, suc, ◌+◌, ◌*◌, ◌^◌, ◌≤◌, ◌<◌}
use mathlib.Core.Path.{◌≡◌, refl, sym, ap, ◌∙◌}
use mathlib.Core.List.{List}
use native.Mathlib.Nat.{mul-le-mul, pow-succ'}
use native.Mathlib.Numerals.{add-one}
use native.Mathlib.Omega.{arith}
use borrow.Author.Tests.{lt-ltb, le-ltb}
use lib.ListN.{get_or}
use Rattle.model.specs.Record.{low_bits}

-- the byte holds the lowest m bits, and bit is the worth of the next
pub record Packing (n : ℕ) (ground : List ℕ) (j m byte bit : ℕ) : Type 0 where
  pub is : byte ≡ low_bits n ground j m
  pub power : bit ≡ 2 ^ m
  pub small : byte < bit

-- a bit's worth in the byte
worth_le : (v bit : ℕ) → v ≤ 1 → v * bit ≤ bit
worth_le v bit l = let t : v * bit ≤ 1 * bit = mul-le-mul l (omega arith) in omega arith

-- one bit more, below n
pub bit_more : (n : ℕ) (ground : List ℕ) (j m : ℕ) → 8 * j + m < n → low_bits n ground j (suc m) ≡ low_bits n ground j m + get_or ground (8 * j + m) 0 * 2
    ^ m
unfolding low_bits
bit_more n ground j m i = rw (lt-ltb (8 * j + m) n i)

-- and a spare one
bit_spare : (n : ℕ) (ground : List ℕ) (j m : ℕ) → n ≤ 8 * j + m → low_bits n ground j (suc m) ≡ low_bits n ground j m
unfolding low_bits
bit_spare n ground j m i = rw (le-ltb (8 * j + m) n i) (omega arith)

bits_spare : (n : ℕ) (ground : List ℕ) (j m k : ℕ) → (0 < k → n ≤ 8 * j + m) → low_bits n ground j (m + k) ≡ low_bits n ground j m
bits_spare n ground j m zero f = ap (low_bits n ground j) (omega arith)
bits_spare n ground j m (suc k) f =
    let q : m + suc k ≡ suc (m + k) = omega arith in
    let r : n ≤ 8 * j + m = f (omega arith) in
    ap (low_bits n ground j) q ∙ bit_spare n ground j (m + k) (omega arith) ∙ bits_spare n ground j m k (λ _. r)

module _ (n : ℕ) (ground : List ℕ) (j : ℕ) where
  pub pack_begin : Packing n ground j 0 0 1
  unfolding low_bits
  pack_begin = record { is = refl; power = refl; small = omega arith }

module _ {n : ℕ} {ground : List ℕ} {j m byte bit : ℕ} (t : Packing n ground j m byte bit) where
  pub pack_next : (v : ℕ) → v ≡ get_or ground (8 * j + m) 0 → v ≤ 1 → 8 * j + m < n → Packing n ground j (m + 1) (byte + v * bit) (bit + bit)
  pack_next v e l i = record {
    is = rw (e, t.is, t.power) (sym (ap (low_bits n ground j) (add-one m) ∙ bit_more n ground j m i));
    power = rw (add-one m) (omega (arith, t.power, pow-succ' 2 m));
    small = omega (arith, t.small, worth_le v bit l);
  }

  -- all bits, or all cells below n
  pub pack_end : (k : ℕ) → m + k ≡ 8 → (0 < k → n ≤ 8 * j + m) → byte ≡ low_bits n ground j 8
  pack_end k e f = t.is ∙ sym (bits_spare n ground j m k f) ∙ ap (low_bits n ground j) e
