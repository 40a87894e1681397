-- Steps on the plot: each is one of four, stays on it, and goes back by the opposite direction.
-- Assumes nothing.
use mathlib.Core.Path.{◌≡◌, refl, ap}
use mathlib.Core.Bool.{Bool, true, false, cond}
use mathlib.Core.List.{List}
use Prim.Native.Nat.{ℕ, zero, suc, ◌+◌, ◌-◌, ◌*◌, ◌%◌, ◌/◌, ◌≤◌, ◌<◌}
use native.Mathlib.Nat.{div-add-mod', div-eq_of_lt-le, suc-mul, mod-lt, mod-le}
use native.Mathlib.Numerals.{add-one}
use native.Mathlib.Omega.{arith}
use borrow.Author.Tests.{ltb-true, leb-true, ne_eqb, lt-ltb, le-leb}
use lib.Dec.{ltb, leb}
use Rattle.model.specs.Plot.{cells, column, ahead, opposite, behind, free, allowed}
use Rattle.model.specs.Ways.{Leg, Adj}
use Rattle.model.proofs.Lists.Bools.{and_left, and_right, and_both}

-- direction d leads from c to y
pub data Stepped (w h c : ℕ) : ℕ → ℕ → Type 0 where
  right : column w c + 1 < w → Stepped w h c 1 (c + 1)
  down : c + w < cells w h → Stepped w h c 2 (c + w)
  left : 0 < column w c → Stepped w h c 3 (c - 1)
  up : w ≤ c → Stepped w h c 4 (c - w)

-- no other direction leads anywhere
pub no_ahead : (w h c d : ℕ) → 5 ≤ d → ahead w h c d ≡ cells w h
unfolding ahead
no_ahead w h c d l = rw (ne_eqb d 1 (omega arith), ne_eqb d 2 (omega arith), ne_eqb d 3 (omega arith), ne_eqb d 4 (omega arith))

-- a link of 0 leads nowhere
pub none_ahead : (w h c : ℕ) → ahead w h c 0 ≡ cells w h
unfolding ahead
none_ahead w h c = refl

-- a step that stays on the plot is one of these
pub ahead_is : (w h c d : ℕ) → ahead w h c d < cells w h → Stepped w h c d (ahead w h c d)
unfolding ahead
ahead_is w h c zero l = absurd (omega arith)
ahead_is w h c (suc zero) l = go _ refl l
  where
    go : (b : Bool) → ltb (column w c + 1) w ≡ b → cond b (c + 1) (cells w h) < cells w h → Stepped w h c 1 (cond b (c + 1) (cells w h))
    go true e l = right (ltb-true _ _ e)
    go false e l = absurd (omega arith)
ahead_is w h c (suc (suc zero)) l = go _ refl l
  where
    go : (b : Bool) → ltb (c + w) (cells w h) ≡ b → cond b (c + w) (cells w h) < cells w h → Stepped w h c 2 (cond b (c + w) (cells w h))
    go true e l = down (ltb-true _ _ e)
    go false e l = absurd (omega arith)
ahead_is w h c (suc (suc (suc zero))) l = go _ refl l
  where
    go : (b : Bool) → ltb 0 (column w c) ≡ b → cond b (c - 1) (cells w h) < cells w h → Stepped w h c 3 (cond b (c - 1) (cells w h))
    go true e l = left (ltb-true _ _ e)
    go false e l = absurd (omega arith)
ahead_is w h c (suc (suc (suc (suc zero)))) l = go _ refl l
  where
    go : (b : Bool) → leb w c ≡ b → cond b (c - w) (cells w h) < cells w h → Stepped w h c 4 (cond b (c - w) (cells w h))
    go true e l = up (leb-true _ _ e)
    go false e l = absurd (omega arith)
ahead_is w h c (suc (suc (suc (suc (suc d))))) l = absurd (omega (arith, no_ahead w h c (suc (suc (suc (suc (suc d))))) (omega arith)))

-- and each of these is that step
pub stepped_ahead : {w h c d y : ℕ} → Stepped w h c d y → ahead w h c d ≡ y
unfolding ahead
stepped_ahead {w} {c = c} (right l) = rw (lt-ltb (column w c + 1) w l)
stepped_ahead {w} {h} {c} (down l) = rw (lt-ltb (c + w) (cells w h) l)
stepped_ahead {w} {c = c} (left l) = rw (lt-ltb 0 (column w c) l)
stepped_ahead {w} {c = c} (up l) = rw (le-leb w c l)

pub stepped_low : {w h c d y : ℕ} → Stepped w h c d y → 1 ≤ d
stepped_low (right _) = omega arith
stepped_low (down _) = omega arith
stepped_low (left _) = omega arith
stepped_low (up _) = omega arith

pub stepped_high : {w h c d y : ℕ} → Stepped w h c d y → d ≤ 4
stepped_high (right _) = omega arith
stepped_high (down _) = omega arith
stepped_high (left _) = omega arith
stepped_high (up _) = omega arith

-- a cell y of x's row has x's quotient
pub same_row : (w x y : ℕ) → x / w * w ≤ y → y < x / w * w + w → y / w ≡ x / w
same_row w x y l h = div-eq_of_lt-le w l (rw (add-one (x / w)) (omega (arith, suc-mul (x / w) w)))

-- and stands as far behind its first cell as its remainder says
pub column_of : (w x y : ℕ) → y / w ≡ x / w → y ≡ x / w * w + y % w
column_of w x y e = omega (arith, div-add-mod' y w, ap (λ k. k * w) e)

-- one column to the right, one to the left
pub row_right : (w x : ℕ) → column w x + 1 < w → (x + 1) / w ≡ x / w
row_right w x l = same_row w x (x + 1) (omega (arith, div-add-mod' x w)) (omega (arith, div-add-mod' x w))

pub row_left : (w x : ℕ) → 0 < w → 0 < column w x → (x - 1) / w ≡ x / w
row_left w x p l = same_row w x (x - 1) (omega (arith, div-add-mod' x w)) (omega (arith, div-add-mod' x w, mod-lt x p))

pub column_right : (w x : ℕ) → column w x + 1 < w → column w (x + 1) ≡ column w x + 1
column_right w x l = omega (arith, column_of w x (x + 1) (row_right w x l), div-add-mod' x w)

pub column_left : (w x : ℕ) → 0 < w → 0 < column w x → column w (x - 1) + 1 ≡ column w x
column_left w x p l = omega (arith, column_of w x (x - 1) (row_left w x p l), div-add-mod' x w, mod-le x w)

-- the same step, back
pub stepped_back : {w h c d y : ℕ} → 0 < w → c < cells w h → Stepped w h c d y → Stepped w h y (opposite d) c
stepped_back {w} {h} {c} p b (right l) = same_cell (left (omega (arith, column_right w c l)))
  where
    same_cell : Stepped w h (c + 1) 3 (c + 1 - 1) → Stepped w h (c + 1) 3 c
    same_cell s = let e : c + 1 - 1 ≡ c = omega arith in rw e at s
stepped_back {w} {h} {c} p b (down l) = same_cell (up (omega arith))
  where
    same_cell : Stepped w h (c + w) 4 (c + w - w) → Stepped w h (c + w) 4 c
    same_cell s = let e : c + w - w ≡ c = omega arith in rw e at s
stepped_back {w} {h} {c} p b (left l) = same_cell (right (omega (arith, column_left w c p l, mod-lt c p)))
  where
    same_cell : Stepped w h (c - 1) 1 (c - 1 + 1) → Stepped w h (c - 1) 1 c
    same_cell s = let e : c - 1 + 1 ≡ c = omega (arith, mod-le c w) in rw e at s
stepped_back {w} {h} {c} p b (up l) = same_cell (down (omega arith))
  where
    same_cell : Stepped w h (c - w) 2 (c - w + w) → Stepped w h (c - w) 2 c
    same_cell s = let e : c - w + w ≡ c = omega arith in rw e at s

-- Allowed steps ---------------------------------------------------------------------------------------------------------------

module _ (w h : ℕ) (ground : List ℕ) (c d : ℕ) where
  pub allowed_here : allowed w h ground c d ≡ true → free ground c ≡ true
  unfolding allowed
  allowed_here e = and_left (free ground c) _ e

  pub allowed_on : allowed w h ground c d ≡ true → ahead w h c d < cells w h
  unfolding allowed
  allowed_on e = ltb-true _ _ (and_left (ltb (ahead w h c d) (cells w h)) _ (and_right (free ground c) _ e))

  pub allowed_free : allowed w h ground c d ≡ true → free ground (ahead w h c d) ≡ true
  unfolding allowed
  allowed_free e = and_right (ltb (ahead w h c d) (cells w h)) _ (and_right (free ground c) _ e)

  pub allow : free ground c ≡ true → ahead w h c d < cells w h → free ground (ahead w h c d) ≡ true → allowed w h ground c d ≡ true
  unfolding allowed
  allow f l e = and_both _ _ f (and_both _ _ (lt-ltb _ _ l) e)

module _ {w h : ℕ} {ground : List ℕ} where
  pub leg_here : {d x y : ℕ} → Leg w h ground d x y → free ground x ≡ true
  leg_here {d} {x} a = allowed_here w h ground x d a.may

  pub leg_inside : {d x y : ℕ} → Leg w h ground d x y → y < cells w h
  leg_inside {d} {x} a = rw a.lands at (allowed_on w h ground x d a.may)

  pub leg_free : {d x y : ℕ} → Leg w h ground d x y → free ground y ≡ true
  leg_free {d} {x} a = rw a.lands at (allowed_free w h ground x d a.may)

  pub leg_stepped : {d x y : ℕ} → Leg w h ground d x y → Stepped w h x d y
  leg_stepped {d} {x} a = rw a.lands at (ahead_is w h x d (allowed_on w h ground x d a.may))

  pub leg_low : {d x y : ℕ} → Leg w h ground d x y → 1 ≤ d
  leg_low a = stepped_low (leg_stepped a)

  pub leg_high : {d x y : ℕ} → Leg w h ground d x y → d ≤ 4
  leg_high a = stepped_high (leg_stepped a)

  pub leg_behind : {d x y : ℕ} → 0 < w → Leg w h ground d x y → behind w h y d ≡ x
  leg_behind p a = stepped_ahead (stepped_back p a.inside (leg_stepped a))

  -- steps go both ways
  pub adj_back : {x y : ℕ} → 0 < w → Adj w h ground x y → Adj w h ground y x
  adj_back {x} {y} p a =
      let e = leg_behind p a.leg in
      let i : ahead w h y (opposite a.dir) < cells w h = rw e a.leg.inside in
      let f : free ground (ahead w h y (opposite a.dir)) ≡ true = rw e (leg_here a.leg) in
      record {
        dir = opposite a.dir;
        leg = record {
          inside = leg_inside a.leg;
          may = allow w h ground y (opposite a.dir) (leg_free a.leg) i f;
          lands = e;
        };
      }

  pub adj_inside : (x y : ℕ) → Adj w h ground x y → y < cells w h
  adj_inside x y a = leg_inside a.leg

  pub adj_free : (x y : ℕ) → Adj w h ground x y → free ground y ≡ true
  adj_free x y a = leg_free a.leg
