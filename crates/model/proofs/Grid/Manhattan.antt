-- Manhattan distances change by at most 1 along a step, are 0 at the goal and stay below N.
-- Assumes nothing.
use mathlib.Core.Path.{◌≡◌}
use Prim.Native.Nat.{ℕ, zero, suc, ◌+◌, ◌-◌, ◌*◌, ◌%◌, ◌/◌, ◌≤◌, ◌<◌}
use native.Mathlib.Nat.{add-div_right, add-mod_right, mod-lt, suc-mul, mul-suc, mul_comm, div-lt_iff_lt-mul}
use native.Mathlib.Omega.{arith}
use Rattle.model.specs.Plot.{cells, row, column, gap, distance}
use Rattle.model.proofs.Grid.Geometry.{Stepped, right, down, left, up, row_right, row_left, column_right, column_left}

-- two numbers differ by at most k
record Within (k a b : ℕ) : Type 0 where
  up : a ≤ b + k
  down : b ≤ a + k

gap_near : {k a b : ℕ} (g : ℕ) → Within k a b → gap g a ≤ gap g b + k
gap_near g t = omega arith

gap_below : (g a m : ℕ) → g < m → a < m → gap g a + 1 ≤ m
gap_below g a m l k = omega arith

-- the coordinates together change by at most 1
near : (w goal x y i j : ℕ) → Within i (row w x) (row w y) → Within j (column w x) (column w y) → i + j ≤ 1
    → distance w goal x ≤ distance w goal y + 1
unfolding distance
near w goal x y i j r c l = add _ _ _ _ (gap_near (row w goal) r) (gap_near (column w goal) c)
  where
    add : (a b m n : ℕ) → a ≤ b + i → m ≤ n + j → a + m ≤ b + n + 1
    add a b m n p q = omega arith

-- a step changes the distance by at most 1
pub step_near : {w h x d y : ℕ} (goal : ℕ) → 0 < w → Stepped w h x d y → distance w goal x ≤ distance w goal y + 1
step_near {w} {x = x} goal p (right l) =
    near w goal x (x + 1) 0 1 (omega (arith, row_right w x l)) (omega (arith, column_right w x l)) (omega arith)
step_near {w} {x = x} goal p (down l) =
    near w goal x (x + w) 1 0 (omega (arith, add-div_right x p)) (omega (arith, add-mod_right x w)) (omega arith)
step_near {w} {x = x} goal p (left l) =
    near w goal x (x - 1) 0 1 (omega (arith, row_left w x p l)) (omega (arith, column_left w x p l)) (omega arith)
step_near {w} {x = x} goal p (up l) =
    let s : x - w + w ≡ x = omega arith in
    let r : x / w ≡ (x - w) / w + 1 = rw s at (add-div_right (x - w) p) in
    let c : x % w ≡ (x - w) % w = rw s at (add-mod_right (x - w) w) in
    near w goal x (x - w) 1 0 (omega arith) (omega arith) (omega arith)

row_below : (w h x : ℕ) → 0 < w → x < cells w h → row w x < h
row_below w h x p l = (div-lt_iff_lt-mul p).1 (rw mul_comm l)

sides_add : (w h : ℕ) → 0 < w → 0 < h → w + h ≤ w * h + 1
sides_add zero h p q = absurd (omega arith)
sides_add (suc a) zero p q = absurd (omega arith)
sides_add (suc a) (suc b) p q = omega (arith, suc-mul a (suc b), mul-suc a b)

-- the distance between two cells is below N
pub distance_below : (w h goal x : ℕ) → 0 < w → 0 < h → goal < cells w h → x < cells w h → distance w goal x < cells w h
unfolding distance
distance_below w h goal x p q g l =
    below (gap (row w goal) (row w x)) (gap (column w goal) (column w x))
    (gap_below (row w goal) (row w x) h (row_below w h goal p g) (row_below w h x p l))
    (gap_below (column w goal) (column w x) w (mod-lt goal p) (mod-lt x p)) (sides_add w h p q)
  where
    below : (a b : ℕ) → a + 1 ≤ h → b + 1 ≤ w → w + h ≤ w * h + 1 → a + b < w * h
    below a b m n k = omega arith

pub distance_self : (w goal : ℕ) → distance w goal goal ≡ 0
unfolding distance
distance_self w goal = omega arith
