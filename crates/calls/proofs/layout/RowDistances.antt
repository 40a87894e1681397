-- The distances of one row after the other are those of all cells.
-- Assumes nothing.
use Prim.Native.Nat.{ℕ, zero, suc, ◌+◌, ◌*◌, ◌≤◌, ◌<◌}
use mathlib.Core.Path.{◌≡◌, refl, ap, ◌∙◌}
use mathlib.Core.List.{List}
use native.Mathlib.Nat.{zero-mul, suc-mul, mod-eq_of_lt, mul-add-mod_self_right, div-eq_of_lt-le}
use native.Mathlib.Numerals.{add-one}
use native.Mathlib.Omega.{arith}
use lib.ListN.{length, set, length-set}
use Rattle.model.specs.Lists.{filled}
use Rattle.model.specs.Plot.{row, column, gap, distance}
use Rattle.model.proofs.Lists.FillLoop.{Filled, fill_begin}
use Rattle.calls.specs.Rows.{in_row, row_filled}

-- One row -------------------------------------------------------------------------------------------------------------------------

-- l is l₀ with the distances of the row's first k columns
pub record RowFilled (first rows col k : ℕ) (l₀ l : List ℕ) : Type 0 where
  pub is : l ≡ row_filled first rows col k l₀

pub row_begin : (first rows col : ℕ) (l : List ℕ) → RowFilled first rows col 0 l l
unfolding row_filled
row_begin first rows col l = record { is = refl }

-- one column more, g columns from the goal's
pub row_next : {first rows col k : ℕ} {l₀ l : List ℕ} (g : ℕ) → RowFilled first rows col k l₀ l → g ≡ gap col k
    → RowFilled first rows col (k + 1) l₀ (set l (first + k) (rows + g))
unfolding row_filled in_row
row_next {k = k} g f e = record { is = rw (add-one k, f.is, e) }

pub row_end : {first rows col k : ℕ} {l₀ l : List ℕ} (w : ℕ) → RowFilled first rows col k l₀ l → k ≡ w → l ≡ row_filled first rows col w l₀
row_end w f e = rw e at f.is

length_row : (first rows col k : ℕ) (l : List ℕ) → length (row_filled first rows col k l) ≡ length l
unfolding row_filled
length_row first rows col zero l = refl
length_row first rows col (suc k) l = length-set (row_filled first rows col k l) (first + k) _ ∙ length_row first rows col k l

pub row_long : {first rows col k : ℕ} {l₀ l : List ℕ} → RowFilled first rows col k l₀ l → length l ≡ length l₀
row_long {first} {rows} {col} {k} {l₀} f = ap length f.is ∙ length_row first rows col k l₀

-- Row after row -------------------------------------------------------------------------------------------------------------------

module _ (w goal r : ℕ) where
  -- the cell in column k of row r
  row_at : (k : ℕ) → k < w → row w (r * w + k) ≡ r
  row_at k i = div-eq_of_lt-le w (omega arith) (rw (add-one r) (omega (arith, suc-mul r w)))

  column_at : (k : ℕ) → k < w → column w (r * w + k) ≡ k
  column_at k i = mul-add-mod_self_right r w k ∙ mod-eq_of_lt i

  distance_at : (k : ℕ) → k < w → in_row (gap (row w goal) r) (column w goal) k ≡ distance w goal (r * w + k)
  unfolding in_row distance
  distance_at k i = rw (row_at k i, column_at k i)

  row_fills : (l : List ℕ) (k : ℕ) → k ≤ w → row_filled (r * w) (gap (row w goal) r) (column w goal) k (filled (r * w) (distance w goal) l)
      ≡ filled (r * w + k) (distance w goal) l
  unfolding row_filled filled
  row_fills l zero i = let q : r * w + 0 ≡ r * w = omega arith in rw q
  row_fills l (suc k) i =
      let q : r * w + suc k ≡ suc (r * w + k) = omega arith in
      rw (q, row_fills l k (omega arith), distance_at k (omega arith))

-- l is l₀ with the distances of the first r rows
pub record RowsFilled (w goal r : ℕ) (l₀ l : List ℕ) : Type 0 where
  pub fills : Filled (distance w goal) (r * w) l₀ l

pub rows_begin : (w goal : ℕ) (l : List ℕ) → RowsFilled w goal 0 l l
rows_begin w goal l = let none : 0 * w ≡ 0 = zero-mul w in record { fills = rw none (fill_begin (distance w goal) l) }

-- one row more, g rows from the goal's
pub rows_next : {w goal r : ℕ} {l₀ l : List ℕ} (g : ℕ) (l' : List ℕ) → RowsFilled w goal r l₀ l → g ≡ gap (row w goal) r
    → l' ≡ row_filled (r * w) g (column w goal) w l → RowsFilled w goal (r + 1) l₀ l'
rows_next {w} {goal} {r} {l₀} {l} g l' f e q =
    let more : (r + 1) * w ≡ r * w + w = rw (add-one r) (omega (arith, suc-mul r w)) in
    record {
      fills = rw more (record {
        is = rw (q, e, f.fills.is) (row_fills w goal r l₀ w (omega arith));
        long = row_long (record { is = q }) ∙ f.fills.long;
      });
    }
