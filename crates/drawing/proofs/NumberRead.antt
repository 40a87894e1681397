-- A number is read digit by digit: what is still to be read of it stays the same.
-- Assumes nothing.
use Prim.Native.Nat.{ℕ, ◌+◌, ◌-◌, ◌*◌, ◌≤◌, ◌<◌}
use mathlib.Core.Path.{◌≡◌, refl, sym, ap}
use mathlib.Core.Bool.{true, false, cond}
use mathlib.Core.List.{List, [], ◌∷◌}
use native.Mathlib.Omega.{arith}
use borrow.Author.Tests.{lt-ltb, le-ltb}
use lib.ListN.{length}
use Rattle.model.specs.Head.{head_at}
use Rattle.drawing.specs.Drawing.{is_digit, grown, value, behind, drawing_in}

-- the first byte, and those behind it
module _ {bytes rest : List ℕ} {c : ℕ} (e : bytes ≡ c ∷ rest) where
  pub digit_value : (v : ℕ) → is_digit c ≡ true → value (grown v c) rest ≡ value v bytes
  unfolding value
  digit_value v d = sym (rw (e, value, d) refl)

  pub digit_rest : is_digit c ≡ true → behind rest ≡ behind bytes
  unfolding behind
  digit_rest d = sym (rw (e, behind, d) refl)

  pub other_value : (v : ℕ) → is_digit c ≡ false → v ≡ value v bytes
  unfolding value
  other_value v d = sym (rw (e, value, d) refl)

  pub other_rest : is_digit c ≡ false → rest ≡ behind bytes
  unfolding behind
  other_rest d = sym (rw (e, behind, d) refl)

-- no byte is left
pub none_value : (v : ℕ) (bytes : List ℕ) → length bytes ≡ 0 → v ≡ value v bytes
unfolding value
none_value v [] e = refl
none_value v (c ∷ cs) e = absurd (omega (arith, e))

pub none_rest : (bytes : List ℕ) → length bytes ≡ 0 → bytes ≡ behind bytes
unfolding behind
none_rest [] e = refl
none_rest (c ∷ cs) e = absurd (omega (arith, e))

pub grown_low : (v c : ℕ) → v < 10000 → v * 10 + (c - 48) ≡ grown v c
grown_low v c low = sym (ap (λ b. cond b (v * 10 + (c - 48)) v) (lt-ltb v 10000 low))

pub grown_high : (v c : ℕ) → 10000 ≤ v → v ≡ grown v c
grown_high v c high = sym (ap (λ b. cond b (v * 10 + (c - 48)) v) (le-ltb v 10000 high))

-- the four numbers, one behind the other
pub headed : (bytes : List ℕ) {a b c : List ℕ} {w h s g : ℕ} → w ≡ value 0 bytes → a ≡ behind bytes → h ≡ value 0 a → b ≡ behind a → s ≡ value 0 b
    → c ≡ behind b → g ≡ value 0 c → head_at w h g s ≡ (drawing_in bytes).head
unfolding drawing_in
headed bytes p q r t u v x = rw (p, r, u, x, v, t, q, drawing_in) refl
