-- A byte is the sum of its bits: what is written of the cells read out of a byte is that byte, but for its spare bits.
-- Assumes nothing.
use mathlib.Core.Path.{◌≡◌, refl, sym, ap, ◌∙◌}
use mathlib.Core.Bool.{Bool, true, false}
use mathlib.Core.List.{List}
use Prim.Native.Nat.{ℕ, zero, suc, ◌+◌, ◌-◌, ◌*◌, ◌/◌, ◌%◌, ◌^◌, ◌≤◌, ◌<◌}
use native.Mathlib.Nat.{zero-mul, pow-succ', mod-one, mod-lt, mod-eq_of_lt, div-eq_of_lt, zero-lt-suc, add-zero, add-suc}
use native.Mathlib.Omega.{arith}
use borrow.Author.Tests.{leb-true, leb-false, lt-ltb, le-ltb, eqb-true, eqb-false, eq-eqb, ne_eqb}
use lib.Arith.{mod-mul}
use lib.Dec.{leb, eqb}
use lib.ListN.{get_or}
use lib.Pow.{pow_pos, split}
use Rattle.model.specs.Record.{low_bits, ground_size, byte_of, bit_of}
use Rattle.model.proofs.Lists.Bools.{or_right, make_or}
use Rattle.record.specs.Form.{spare_clear}

-- one bit more
mod_more : (b m : ℕ) → b % 2 ^ suc m ≡ b % 2 ^ m + b / 2 ^ m % 2 * 2 ^ m
mod_more b m = let e = mod-mul b {m = 2} {c = 2 ^ m} (zero-lt-suc 1) (pow_pos m) in rw (pow-succ' 2 m) (omega (arith, e))

-- a byte with no bit from m on is its lowest m bits
none_above : (b m : ℕ) → b / 2 ^ m ≡ 0 → b % 2 ^ m ≡ b
none_above b m e = let s = split b m in let z : b / 2 ^ m * 2 ^ m ≡ 0 = rw e (zero-mul (2 ^ m)) in omega (arith, s, z)

above_none : (b m : ℕ) → b ≡ b % 2 ^ m → b / 2 ^ m ≡ 0
above_none b m e = div-eq_of_lt (rw e (mod-lt b (pow_pos m)))

module _ (n : ℕ) (ground : List ℕ) (j : ℕ) where
  -- the bits from N on are 0
  low_bits_past : (m d : ℕ) → n ≤ 8 * j + m → low_bits n ground j (m + d) ≡ low_bits n ground j m
  unfolding low_bits
  low_bits_past m zero l = ap (low_bits n ground j) (add-zero m)
  low_bits_past m (suc d) l = rw (add-suc m d, le-ltb (8 * j + (m + d)) n (omega arith)) (omega (arith, low_bits_past m d l))

  module _ (b : ℕ) (bits : (i : ℕ) → i < 8 → 8 * j + i < n → get_or ground (8 * j + i) 0 ≡ b / 2 ^ i % 2) where
    -- and those below are the byte's own
    low_bits_mod : (m : ℕ) → m ≤ 8 → 8 * j + m ≤ n → low_bits n ground j m ≡ b % 2 ^ m
    unfolding low_bits
    low_bits_mod zero l k = sym (mod-one b)
    low_bits_mod (suc m) l k =
        rw (lt-ltb (8 * j + m) n (omega arith), bits m (omega arith) (omega arith), low_bits_mod m (omega arith) (omega arith)) (sym (mod_more b m))

    full_byte : 8 * j + 8 ≤ n → b < 256 → low_bits n ground j 8 ≡ b
    full_byte l s = low_bits_mod 8 (omega arith) l ∙ mod-eq_of_lt s

    last_byte : j ≡ n / 8 → low_bits n ground j 8 ≡ b % 2 ^ (n % 8)
    last_byte e =
        let r : n % 8 + (8 - n % 8) ≡ 8 = omega arith in
        ap (low_bits n ground j) (sym r) ∙ low_bits_past (n % 8) (8 - n % 8) (omega arith) ∙ low_bits_mod (n % 8) (omega arith) (omega arith)

-- The ground field ------------------------------------------------------------------------------------------------------------------

-- a bit of a byte is the cell's
pub bit_in : (part : List ℕ) (j i : ℕ) → i < 8 → bit_of part (8 * j + i) ≡ byte_of part j / 2 ^ i % 2
bit_in part j i l =
    let q : (8 * j + i) / 8 ≡ j = omega arith in
    let r : (8 * j + i) % 8 ≡ i = omega arith in
    rw (q, r)

module _ (n : ℕ) (ground part : List ℕ) (bits : (c : ℕ) → c < n → get_or ground c 0 ≡ bit_of part c) where
  bits_at : (j i : ℕ) → i < 8 → 8 * j + i < n → get_or ground (8 * j + i) 0 ≡ byte_of part j / 2 ^ i % 2
  bits_at j i l k = bits (8 * j + i) k ∙ bit_in part j i l

  -- where spare bits are 0, each byte is written as it was read
  pub byte_back : ((i : ℕ) → byte_of part i < 256) → spare_clear n part ≡ true → (j : ℕ) → j < ground_size n → low_bits n ground j 8 ≡ byte_of part j
  unfolding spare_clear
  byte_back small s j l = go _ refl
    where
      go : (t : Bool) → leb (8 * j + 8) n ≡ t → low_bits n ground j 8 ≡ byte_of part j
      go true e = full_byte n ground j (byte_of part j) (bits_at j) (leb-true _ _ e) (small j)
      go false e =
          let k = leb-false (8 * j + 8) n e in
          let q : j ≡ n / 8 = omega arith in
          let t = or_right (eqb (n % 8) 0) _ s (ne_eqb (n % 8) 0 (λ z. omega (arith, z))) in
          last_byte n ground j (byte_of part j) (bits_at j) q ∙ none_above (byte_of part j) (n % 8) (rw q (eqb-true _ _ t))

  -- and a last byte that is written as it was read has no spare bits
  pub spare_back : (n / 8 < ground_size n → byte_of part (n / 8) ≡ low_bits n ground (n / 8) 8) → spare_clear n part ≡ true
  unfolding spare_clear
  spare_back f =
      make_or (eqb (n % 8) 0) _ (λ z.
      let q = eqb-false (n % 8) 0 z in
      let t = f (omega (arith, q)) ∙ last_byte n ground (n / 8) (byte_of part (n / 8)) (bits_at (n / 8)) refl in
      eq-eqb (byte_of part (n / 8) / 2 ^ (n % 8)) 0 (above_none (byte_of part (n / 8)) (n % 8) t))
