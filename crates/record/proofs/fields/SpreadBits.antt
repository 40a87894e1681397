-- Whole bytes of the ground, eight cells at a time: four bits are made four bytes, and these are the cells.
-- Assumes nothing.
use mathlib.Core.Path.{◌≡◌, refl, sym, ap, ◌∙◌}
use mathlib.Core.Bool.{Bool, true}
use mathlib.Core.List.{List}
use Prim.Native.Nat.{ℕ, ◌+◌, ◌-◌, ◌*◌, ◌/◌, ◌%◌, ◌^◌, ◌<◌}
use native.Mathlib.Nat.{add-zero}
use native.Mathlib.Omega.{arith}
use borrow.Author.Tests.{eqb-true}
use lib.Bits.{bit_and}
use lib.Dec.{eqb}
use lib.ListN.{set}
use lib.Pow.{shr-shr, field, mod-mod-pow}
use Rattle.model.specs.Lists.{every}
use Rattle.model.specs.Record.{byte_of}
use Rattle.model.proofs.Lists.Filled.{every_at}
use Rattle.model.proofs.Lists.FillLoop.{Filled, fill_next}
use Rattle.record.specs.Cells.{bit_at, Spread, four_put}
use Rattle.record.proofs.form.ByteOfBits.{bit_in}

-- Four bits as four bytes: a test of all numbers of four bits -----------------------------------------------------------------------

spreads : (v i : ℕ) → Bool
spreads v i = eqb (bit_and (v * 2113665) 16843009 / 256 ^ i % 256) (v / 2 ^ i % 2)

all_spread : every 16 (λ v. every 4 (spreads v)) ≡ true
unfolding every spreads
all_spread = refl

pub spread_is : (v : ℕ) → v < 16 → Spread v (bit_and (v * 2113665) 16843009)
unfolding spreads
spread_is v l = record { bits = λ i k. eqb-true _ _ (every_at 4 (spreads v) (every_at 16 (λ v. every 4 (spreads v)) all_spread v l) i k) }

-- The two halves of a byte ------------------------------------------------------------------------------------------------------------

low_bit : (b i : ℕ) → i < 4 → b % 16 / 2 ^ i % 2 ≡ b / 2 ^ i % 2
low_bit b i l =
    let p : 4 - i + i ≡ 4 = omega arith in
    let q : 3 - i + 1 ≡ 4 - i = omega arith in
    let s : b % 2 ^ 4 / 2 ^ i ≡ b / 2 ^ i % 2 ^ (4 - i) = rw p at (field b (4 - i) i) in
    let t : b / 2 ^ i % 2 ^ (4 - i) % 2 ≡ b / 2 ^ i % 2 = rw q at (mod-mod-pow (b / 2 ^ i) (3 - i) 1) in
    ap (λ (x : ℕ). x % 2) s ∙ t

high_bit : (b i : ℕ) → b / 16 / 2 ^ i % 2 ≡ b / 2 ^ (4 + i) % 2
high_bit b i = ap (λ (x : ℕ). x % 2) (shr-shr b 4 i)

cell_of : (part : List ℕ) (j b i : ℕ) → b ≡ byte_of part j → i < 8 → b / 2 ^ i % 2 ≡ bit_at part (8 * j + i)
unfolding bit_at
cell_of part j b i e l = rw e (sym (bit_in part j i l))

-- An iteration --------------------------------------------------------------------------------------------------------------------------------

fill_at : {entry : ℕ → ℕ} {k : ℕ} {l₀ l : List ℕ} (place v : ℕ) → Filled entry k l₀ l → place ≡ k → v ≡ entry place
    → Filled entry (place + 1) l₀ (set l place v)
fill_at place v f p e = fill_next v (rw (sym p) at f) e

four_next : {entry : ℕ → ℕ} {c : ℕ} {l₀ l : List ℕ} (x : ℕ) → Filled entry c l₀ l → ((i : ℕ) → i < 4 → x / 256 ^ i % 256 ≡ entry (c + i))
    → Filled entry (c + 4) l₀ (four_put x c l)
unfolding four_put
four_next {entry} {c} {l₀} {l} x f e =
    let p : c + 3 + 1 ≡ c + 4 = omega arith in
    let first : x % 256 ≡ x / 256 ^ 0 % 256 = omega arith in
    let a = fill_at c (x % 256) f refl (first ∙ e 0 (omega arith) ∙ ap entry (add-zero c)) in
    let b = fill_at (c + 1) (x / 256 % 256) a refl (e 1 (omega arith)) in
    let d = fill_at (c + 2) (x / 65536 % 256) b (omega arith) (e 2 (omega arith)) in
    rw p at (fill_at (c + 3) (x / 16777216 % 256) d (omega arith) (e 3 (omega arith)))

-- b is byte j; m is l with the four cells of its low half, and m' is m with the four of its high half
pub byte_next : (part : List ℕ) (j b : ℕ) {l₀ l : List ℕ} {low high : ℕ} (m m' : List ℕ) → Filled (bit_at part) (8 * j) l₀ l → b ≡ byte_of part j
    → Spread (b % 16) low → Spread (b / 16) high
    → m ≡ four_put low (8 * j) l → m' ≡ four_put high (8 * j + 4) m → Filled (bit_at part) (8 * (j + 1)) l₀ m'
byte_next part j b {l₀} {l} {low} {high} m m' f e s t p q =
    let g : Filled (bit_at part) (8 * j + 4) l₀ m = rw p (four_next low f (λ i k. s.bits i k ∙ low_bit b i k ∙ cell_of part j b i e (omega arith))) in
    let h = four_next high g (λ i k.
    let y : 8 * j + (4 + i) ≡ 8 * j + 4 + i = omega arith in
    t.bits i k ∙ high_bit b i ∙ cell_of part j b (4 + i) e (omega arith) ∙ ap (bit_at part) y) in
    let z : 8 * j + 4 + 4 ≡ 8 * (j + 1) = omega arith in
    rw (q, sym z) h
