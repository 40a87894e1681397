-- Rows of w cells: what good sides give, and the marks of the rows' ends, as they are written and as they are read.
-- Assumes nothing.
use mathlib.Core.Path.{◌≡◌, refl, ap, ◌∙◌}
use mathlib.Core.Bool.{Bool, true, false}
use mathlib.Core.List.{List}
use Prim.Native.Nat.{ℕ, ◌+◌, ◌-◌, ◌*◌, ◌/◌, ◌≤◌, ◌<◌}
use native.Mathlib.Nat.{div-add-mod', suc-mul, mod-lt, mul-le-mul_right, mul_comm}
use native.Mathlib.Decide.{ℕ_discrete}
use native.Mathlib.Numerals.{add-one}
use native.Mathlib.Omega.{arith}
use borrow.Author.Tests.{ltb-true, ltb-false, leb-true, leb-false}
use lib.Dec.{ltb, leb}
use lib.ListN.{length, get_or, set, replicate}
use lib.Seq.{get_or-set_same, get_or-set_other}
use Rattle.model.specs.Plot.{max_cells, bad_sides, cells, column}
use Rattle.model.proofs.Lists.Filled.{zeros_at}
use Rattle.model.proofs.Calls.Acceptance.{side_wide, side_high, cells_few, row_within}
use Rattle.checks.specs.Flat.{Clear, EndsMarked}

-- row r of h rows of w cells lies within them, and the next begins where it ends
pub row_in : (r h w : ℕ) → r < h → r * w + w ≤ h * w
row_in r h w l = omega (arith, suc-mul r w, mul-le-mul_right w l)

pub row_next : (r w : ℕ) → (r + 1) * w ≡ r * w + w
row_next r w = rw (add-one, suc-mul)

-- good sides
pub record SidesFit (w h : ℕ) : Type 0 where
  pub wide : 0 < w
  pub high : 0 < h
  pub few : cells w h ≤ max_cells
  pub swapped : h * w ≡ cells w h
  pub row : w ≤ cells w h

pub good_sides : (w h : ℕ) → bad_sides w h ≡ false → SidesFit w h
good_sides w h e = record {
  wide = side_wide w h e;
  high = side_high w h e;
  few = cells_few w h e;
  swapped = mul_comm h w;
  row = row_within w h e;
}

-- the first row's end is marked
pub first_end : (w h : ℕ) (end : List ℕ) → 0 < w → 0 < h → EndsMarked w h end → get_or end (w - 1) 0 ≡ 1
first_end w h end wide high m = let e : 0 * w + (w - 1) ≡ w - 1 = omega arith in rw e at (m.last 0 (w - 1) high (omega arith))

-- The marks are written -------------------------------------------------------------------------------------------------------

-- the last cell of a row is no earlier cell of any row
rows_apart : (r s w c d : ℕ) → c + 1 < w → d + 1 ≡ w → r * w + c ≡ s * w + d → ⊥
rows_apart r s w c d l e q = go (ℕ_discrete r s)
  where
    go : Dec (r ≡ s) → ⊥
    go (yes f) = omega (arith, ap (λ k. k * w) f)
    go (no f) = side (leb r s) refl
      where
        side : (b : Bool) → leb r s ≡ b → ⊥
        side true t = omega (arith, row_in r s w (omega (arith, leb-true r s t)))
        side false t = omega (arith, row_in s r w (leb-false r s t))

pub mark_next : (w row at : ℕ) (end : List ℕ) → 0 < w → at ≡ row * w + (w - 1) → at < length end → EndsMarked w row end
    → EndsMarked w (row + 1) (set end at 1)
mark_next w row at end p q long m = record {
  inside = λ r c l. get_or-set_other end at (r * w + c) 1 0 (λ e. rows_apart r row w c (w - 1) l (omega arith) (e ∙ q)) ∙ m.inside r c l;
  last = λ r c l e. go r c e (ℕ_discrete r row) (omega arith);
}
  where
    go : (r c : ℕ) → c + 1 ≡ w → Dec (r ≡ row) → r ≤ row → get_or (set end at 1) (r * w + c) 0 ≡ 1
    go r c e (yes f) l =
        let same : r * w + c ≡ at = omega (arith, ap (λ k. k * w) f) in
        rw same (get_or-set_same end at 1 0 long)
    go r c e (no f) l =
        get_or-set_other end at (r * w + c) 1 0 (λ x. omega (arith, row_in r row w (omega arith))) ∙ m.last r c (omega arith) e

-- a list of zeros
pub clear_zeros : (n : ℕ) → Clear (replicate n 0)
clear_zeros n = record { zero = zeros_at n }

-- and read --------------------------------------------------------------------------------------------------------------------

-- a cell's row is one of h
row_of : (w h c : ℕ) → c < cells w h → c / w < h
row_of w h c l = side (ltb (c / w) h) refl
  where
    side : (b : Bool) → ltb (c / w) h ≡ b → c / w < h
    side true t = ltb-true (c / w) h t
    side false t = absurd (omega (arith, mul-le-mul_right w (ltb-false (c / w) h t), div-add-mod' c w, mul_comm h w))

module _ (w h : ℕ) (end : List ℕ) (p : 0 < w) (m : EndsMarked w h end) where
  pub unmarked : (c : ℕ) → column w c + 1 < w → get_or end c 0 ≡ 0
  unmarked c l = rw (div-add-mod' c w) at (m.inside (c / w) (column w c) l)

  marked : (c : ℕ) → c < cells w h → column w c + 1 ≡ w → get_or end c 0 ≡ 1
  marked c l e = rw (div-add-mod' c w) at (m.last (c / w) (column w c) (row_of w h c l) e)

  -- where there is no mark, the row goes on
  pub goes_on : (c : ℕ) → c < cells w h → get_or end c 0 ≡ 0 → column w c + 1 < w
  goes_on c l z = side (ltb (column w c + 1) w) refl
    where
      side : (b : Bool) → ltb (column w c + 1) w ≡ b → column w c + 1 < w
      side true t = ltb-true (column w c + 1) w t
      side false t = absurd (omega (arith, marked c l (omega (arith, ltb-false (column w c + 1) w t, mod-lt c p))))
