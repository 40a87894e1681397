-- Two numbers behind words.
-- Assumes nothing.
use Prim.Native.Nat.{ℕ, ◌+◌, ◌<◌}
use mathlib.Core.List.{List, [], ◌∷◌, ◌++◌}
use native.Mathlib.Omega.{arith}
use lib.ListN.{length, length-append}
use Rattle.printing.specs.Text.{line_feed, space, decimal, number, Put}
use Rattle.printing.proofs.Appended.{put_then, put_long, digits_long}

module _ (n : ℕ) {words l : List ℕ} {at a b : ℕ} {l₁ l₂ : List ℕ} (p : Put at words l a l₁) (q : Put a (number n space) l₁ b l₂)
    (room : at + length words + 41 < length l) where
  both : Put at (words ++ number n space) l b l₂
  both = put_then p q (omega arith)

  few : at + length (words ++ number n space) + 20 < length l
  few = omega (arith, length-append words (number n space), length-append (decimal n) (space ∷ []), digits_long 19 n)

  pub plan_room : b + 20 < length l₂
  plan_room = omega (arith, few, both.behind, put_long both (omega (arith, few)))

  pub plan_done : (m : ℕ) {next : ℕ} {l₃ : List ℕ} → Put b (number m line_feed) l₂ next l₃
      → Put at (words ++ number n space ++ number m line_feed) l next l₃
  plan_done m r = put_then both r (omega (arith, few))
