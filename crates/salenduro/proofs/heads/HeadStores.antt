-- Five stores at the front of a head array set its front.
-- Assumes nothing.
use mathlib.Core.Path.{◌≡◌, refl}
use mathlib.Core.List.{List, [], ◌∷◌}
use Prim.Native.Nat.{ℕ, ◌≤◌}
use native.Mathlib.Omega.{arith}
use lib.ListN.{length, set}
use Rattle.model.specs.Lent.{fronted}
use Rattle.salenduro.specs.Heads.{head_size}

pub five_stored : (l : List ℕ) (a b c d e : ℕ) → head_size ≤ length l → set (set (set (set (set l 0 a) 1 b) 2 c) 3 d) 4 e
    ≡ fronted (a ∷ b ∷ c ∷ d ∷ e ∷ []) l
five_stored [] a b c d e r = absurd (omega arith)
five_stored (_ ∷ []) a b c d e r = absurd (omega arith)
five_stored (_ ∷ _ ∷ []) a b c d e r = absurd (omega arith)
five_stored (_ ∷ _ ∷ _ ∷ []) a b c d e r = absurd (omega arith)
five_stored (_ ∷ _ ∷ _ ∷ _ ∷ []) a b c d e r = absurd (omega arith)
five_stored (_ ∷ _ ∷ _ ∷ _ ∷ _ ∷ rest) a b c d e r = refl
