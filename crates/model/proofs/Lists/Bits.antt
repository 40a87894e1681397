-- Bits: a sum of bits has those bits, and so a byte of the ground has its cells.
-- Assumes nothing.
use mathlib.Core.Path.{◌≡◌, refl, sym, ap, ap₂, ◌∙◌}
use mathlib.Core.Bool.{Bool, true, false, cond}
use mathlib.Core.List.{List}
use Prim.Native.Nat.{ℕ, zero, suc, ◌+◌, ◌*◌, ◌/◌, ◌%◌, ◌^◌, ◌≤◌, ◌<◌}
use native.Mathlib.Nat.{zero-mul, mul_left_comm, pow-succ', div-div-eq-div-mul, div-one}
use native.Mathlib.Omega.{arith}
use borrow.Author.Tests.{ltb-true, lt-ltb}
use lib.Dec.{ltb}
use lib.ListN.{get_or}
use Rattle.model.specs.Record.{low_bits}

-- Sums of bits ------------------------------------------------------------------------------------------------------------------

-- f 0 + 2 f 1 + 4 f 2 + .., m of them
unfoldable bit_sum : (ℕ → ℕ) → ℕ → ℕ
bit_sum f zero = 0
bit_sum f (suc m) = bit_sum f m + f m * 2 ^ m

double : (v k : ℕ) → v * 2 ^ suc k ≡ 2 * (v * 2 ^ k)
double v k = rw (pow-succ' 2 k) (mul_left_comm v 2 (2 ^ k))

-- the lowest bit first
bit_sum_front : (f : ℕ → ℕ) (m : ℕ) → bit_sum f (suc m) ≡ f 0 + 2 * bit_sum (λ i. f (suc i)) m
unfolding bit_sum
bit_sum_front f zero = omega arith
bit_sum_front f (suc m) = omega (arith, double (f (suc m)) m, bit_sum_front f m)

halved : (x i : ℕ) → x / 2 ^ suc i ≡ x / 2 / 2 ^ i
halved x i = rw (pow-succ' 2 i) (sym (div-div-eq-div-mul x 2 (2 ^ i)))

bit_of_sum : (m i : ℕ) (f : ℕ → ℕ) → ((i : ℕ) → f i ≤ 1) → i < m → bit_sum f m / 2 ^ i % 2 ≡ f i
bit_of_sum zero i f b l = absurd (omega arith)
bit_of_sum (suc m) zero f b l = rw (div-one (bit_sum f (suc m))) (omega (arith, bit_sum_front f m, b 0))
bit_of_sum (suc m) (suc i) f b l =
    let e : bit_sum f (suc m) / 2 ≡ bit_sum (λ i. f (suc i)) m = omega (arith, bit_sum_front f m, b 0) in
    rw (halved (bit_sum f (suc m)) i, e) (bit_of_sum m i (λ i. f (suc i)) (λ i. b (suc i)) (omega arith))

-- Bytes of the ground -----------------------------------------------------------------------------------------------------------

cond_times : (b : Bool) (x y : ℕ) → cond b (x * y) 0 ≡ cond b x 0 * y
cond_times true x y = refl
cond_times false x y = sym (zero-mul y)

cond_le : (b : Bool) (x y : ℕ) → (b ≡ true → x ≤ y) → cond b x 0 ≤ y
cond_le true x y f = f refl
cond_le false x y f = omega arith

cond_same : (b : Bool) (x y : ℕ) → (b ≡ true → x ≡ y) → cond b x 0 ≡ cond b y 0
cond_same true x y f = f refl
cond_same false x y f = refl

module _ (n : ℕ) (ground : List ℕ) where
  -- bit i of byte j
  unfoldable bit_at : (j i : ℕ) → ℕ
  bit_at j i = cond (ltb (8 * j + i) n) (get_or ground (8 * j + i) 0) 0

  low_bits_sum : (j m : ℕ) → low_bits n ground j m ≡ bit_sum (bit_at j) m
  unfolding low_bits bit_sum bit_at
  low_bits_sum j zero = refl
  low_bits_sum j (suc m) = rw (low_bits_sum j m, cond_times (ltb (8 * j + m) n) (get_or ground (8 * j + m) 0) (2 ^ m))

  -- a cell of the ground is its bit of its byte
  pub ground_bit : ((c : ℕ) → c < n → get_or ground c 0 ≤ 1) → (c : ℕ) → c < n → low_bits n ground (c / 8) 8 / 2 ^ (c % 8) % 2 ≡ get_or ground c 0
  unfolding bit_at
  ground_bit b c l =
      let e : 8 * (c / 8) + c % 8 ≡ c = omega arith in
      rw (low_bits_sum (c / 8) 8) (bit_of_sum 8 (c % 8) (bit_at (c / 8)) small (omega arith) ∙ rw (e, lt-ltb c n l))
    where
      small : (i : ℕ) → bit_at (c / 8) i ≤ 1
      small i = cond_le (ltb (8 * (c / 8) + i) n) _ _ (λ q. b (8 * (c / 8) + i) (ltb-true _ _ q))

-- the bytes depend on the cells below n alone
pub low_bits_same : (n : ℕ) (g g' : List ℕ) → ((c : ℕ) → c < n → get_or g c 0 ≡ get_or g' c 0) → (j m : ℕ) → low_bits n g j m ≡ low_bits n g' j m
unfolding low_bits
low_bits_same n g g' e j zero = refl
low_bits_same n g g' e j (suc m) =
    ap₂ ◌+◌ (low_bits_same n g g' e j m)
    (cond_same (ltb (8 * j + m) n) _ _ (λ q. ap (λ (v : ℕ). v * 2 ^ m) (e (8 * j + m) (ltb-true _ _ q))))
