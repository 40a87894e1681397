-- Fronts of lists: one written into a buffer, and what stands there afterwards; and when two are the same.
-- Assumes nothing.
use mathlib.Core.Path.{◌≡◌, sym, ◌∙◌}
use mathlib.Core.List.{List}
use Prim.Native.Nat.{ℕ, ◌+◌, ◌-◌, ◌≤◌, ◌<◌}
use native.Mathlib.Omega.{arith}
use lib.ListN.{length, get_or, take, drop, length-append, length-drop}
use lib.Seq.{ext_get_or, length-take-le, get_or-take, take-append_seam, get_or-append-add, get_or-drop}
use Rattle.model.specs.Lent.{fronted}

module _ (front buffer : List ℕ) where
  pub fronted_front : take (length front) (fronted front buffer) ≡ front
  fronted_front = take-append_seam front (drop (length front) buffer)

  pub fronted_long : length front ≤ length buffer → length (fronted front buffer) ≡ length buffer
  fronted_long r = simp (length-append, length-drop) (omega arith)

  pub fronted_rest : (i d : ℕ) → length front ≤ i → get_or (fronted front buffer) i d ≡ get_or buffer i d
  fronted_rest i d r =
      let e : length front + (i - length front) ≡ i = omega arith in
      rw e at (get_or-append-add front (drop (length front) buffer) (i - length front) d ∙ get_or-drop (length front) buffer (i - length front) d)

pub take_same : (n : ℕ) (l l' : List ℕ) → n ≤ length l → n ≤ length l' → ((c : ℕ) → c < n → get_or l c 0 ≡ get_or l' c 0) → take n l ≡ take n l'
take_same n l l' r r' e =
    ext_get_or 0 (take n l) (take n l') (length-take-le n l r ∙ sym (length-take-le n l' r'))
    (λ i k. let m : i < n = rw (length-take-le n l r) at k in get_or-take n l i 0 m ∙ e i m ∙ sym (get_or-take n l' i 0 m))
