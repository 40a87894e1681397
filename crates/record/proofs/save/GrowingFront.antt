-- The front of a buffer grows: by one byte that is stored behind it, or by the front of the part that begins there.
-- Assumes nothing.
use Prim.Native.Nat.{ℕ, suc, ◌-◌, ◌<◌}
use mathlib.Core.Path.{◌≡◌, sym, ap, ap₂, ◌∙◌}
use mathlib.Core.List.{List, [], ◌∷◌, ◌++◌, append_assoc, append-nil}
use native.Mathlib.Omega.{arith}
use lib.ListN.{length, get_or, set, take, drop, length-append, length-drop, drop_of_length-le}
use lib.Seq.{take_all, drop-cons, append_snoc, set_at, take_at, drop_at, drop-drop}
use Rattle.model.specs.Lent.{fronted}

-- the part of l that begins at a place, and l with another for it: what a lent part is, and what stands once it came back
abbrev pub from : (place : ℕ) (l : List ℕ) → List ℕ
from place l = take (length l - place) (drop place l)

abbrev pub into : (place : ℕ) (l part : List ℕ) → List ℕ
into place l part = take place l ++ (part ++ drop (length l - place) (drop place l))

from_is : (place : ℕ) (l : List ℕ) → from place l ≡ drop place l
from_is place l = take_all (length l - place) (drop place l) (omega (arith, length-drop place l))

into_is : (place : ℕ) (l part : List ℕ) → into place l part ≡ take place l ++ part
into_is place l part =
    ap (λ (s : List ℕ). take place l ++ (part ++ s)) (drop_of_length-le (drop place l) {i = length l - place} (omega (arith, length-drop place l)))
    ∙ ap (λ (s : List ℕ). take place l ++ s) (append-nil part)

module _ (front buffer : List ℕ) (place : ℕ) (e : length front ≡ place) where
  pub front_store : (v : ℕ) → place < length buffer → set (fronted front buffer) place v ≡ fronted (front ++ (v ∷ [])) buffer
  front_store v room =
      let rest = drop (suc (length front)) buffer in
      let n : suc (length front) ≡ length (front ++ (v ∷ [])) = omega (arith, length-append front (v ∷ [])) in
      ap (λ (s : List ℕ). set (front ++ s) place v) (drop-cons buffer (length front) 0 (omega (arith, e)))
      ∙ set_at front (get_or buffer (length front) 0) rest v place e
      ∙ sym (append_snoc front v rest)
      ∙ ap (λ (k : ℕ). front ++ (v ∷ []) ++ drop k buffer) n

  -- l is the buffer with the front, and more was written to the front of its part from there on
  pub front_part : (l part more : List ℕ) → l ≡ fronted front buffer → part ≡ fronted more (from place l)
      → into place l part ≡ fronted (front ++ more) buffer
  front_part l part more is comes =
      let begins : take place l ≡ front = ap (take place) is ∙ take_at front _ place e in
      let goes_on : drop place l ≡ drop (length front) buffer = ap (drop place) is ∙ drop_at front _ place e in
      into_is place l part
      ∙ ap₂ ◌++◌ begins
      (comes ∙ ap (λ (s : List ℕ). fronted more s) (from_is place l ∙ goes_on)
      ∙ ap (λ (s : List ℕ). more ++ s) (drop-drop (length more) (length front) buffer))
      ∙ sym (append_assoc front more _)
      ∙ ap (λ (k : ℕ). front ++ more ++ drop k buffer) (sym (length-append front more))
