-- A gap on its way down: the lesser child comes up, until no child is less than the key in hand.
-- Assumes nothing.
use Prim.Native.Nat.{ℕ, ◌+◌, ◌*◌, ◌/◌, ◌≤◌, ◌<◌}
use mathlib.Core.Path.{◌≡◌, ap, ◌∙◌}
use mathlib.Core.Logic.{⊎_elim}
use mathlib.Core.List.{List}
use native.Mathlib.Omega.{arith}
use lib.ListN.{get_or, length, set, length-set}
use lib.Seq.{get_or-set_other}
use Rattle.queue.specs.Queue.{none, cell, Lesser, Gap, GapKeys}
use Rattle.model.proofs.Lists.Choices.{same_or}
use Rattle.queue.proofs.Gaps.{room_kept, m_hi, m_entry, m_away, m_keys}

-- ---- down: the lesser child comes up
module _ {n len : ℕ} {h : List ℕ} {q : List ℕ} {i v : ℕ} (g : Gap n len h q i v) (m : ℕ) (up : m / 2 ≡ i) (m2 : m ≤ len)
    (least : (j : ℕ) → 1 ≤ j → j ≤ len → j / 2 ≡ i → get_or h m 0 ≤ get_or h j 0) where
  pub d_m1 : 1 ≤ m
  d_m1 = omega (arith, g.low)

  pub d_z : m ≡ i → ⊥
  d_z s = omega (arith, g.low)

  pub d_hi : get_or (set h i (get_or h m 0)) i 0 ≡ get_or h m 0
  d_hi = m_hi g m d_m1 m2 d_z

  pub d_ho : (j : ℕ) → (j ≡ i → ⊥) → get_or (set h i (get_or h m 0)) j 0 ≡ get_or h j 0
  d_ho j w = get_or-set_other h i j (get_or h m 0) 0 w

  pub d_gap : Gap n len (set h i (get_or h m 0)) (set q (cell h m) i) m v
  d_gap = record {
    room = room_kept _ _ _ _ g.room;
    small = g.small;
    base = d_ho 0 (omega (arith, g.low)) ∙ g.base;
    fits = g.fits;
    low = d_m1;
    high = m2;
    inside = g.inside;
    under = g.under;
    entry = m_entry g m d_m1 m2 d_z;
    away = m_away g m d_m1 m2 d_z;
    order = λ j a b w x. ⊎_elim (λ (s : j ≡ i). rw (s, d_hi, d_ho (i / 2) (omega (arith, g.low))) (g.bridge m d_m1 m2 up))
        (λ (s : j ≡ i → ⊥). ⊎_elim (λ (t : j / 2 ≡ i). rw (t, d_hi, d_ho j s) (least j a b t))
        (λ (t : j / 2 ≡ i → ⊥). rw (d_ho j s, d_ho (j / 2) t) (g.order j a b s t))
        (same_or (j / 2) i))
        (same_or j i);
    bridge = λ j a b e. rw (up, d_hi, d_ho j (omega (arith, g.low))) (rw e at (g.order j a b (omega (arith, g.low)) (omega (arith, g.low))));
  }

-- on the way down
pub record Fall (n len : ℕ) (h₀ q₀ : List ℕ) (v : ℕ) (h q : List ℕ) (i : ℕ) : Type 0 where
  pub gap : Gap n len h q i v
  pub stop : get_or h (len + 1) 0 ≡ none
  pub keys : (f : ℕ → ℕ) → GapKeys f n len h₀ q₀ 1 v → GapKeys f n len h q i v
  pub h_same : length h ≡ length h₀
  pub q_same : length q ≡ length q₀

-- the child that is taken is one of the entries, and no child is less
pub fall_in : {n len : ℕ} {h₀ : List ℕ} {q₀ : List ℕ} {v : ℕ} {h : List ℕ} {q : List ℕ} {i : ℕ} (m : ℕ) → Fall n len h₀ q₀ v h q i → 2 * i ≤ len
    → Lesser (get_or h (2 * i) 0) (get_or h (2 * i + 1) 0) (2 * i) m → (m / 2 ≡ i) × (m ≤ len)
fall_in {n} {len} {h₀} {q₀} {v} {h} {q} {i} m s l w =
    ⊎_elim (λ (a : (m ≡ 2 * i) × (get_or h (2 * i) 0 ≤ get_or h (2 * i + 1) 0)). (omega (arith, a.0), omega (arith, a.0)))
    (λ (a : (m ≡ 2 * i + 1) × (get_or h (2 * i + 1) 0 < get_or h (2 * i) 0)). (
      omega (arith, a.0),
      ⊎_elim
          (λ (t : 2 * i ≡ len). absurd
          (omega (
            arith,
            a.1,
            ap (λ (y : ℕ). get_or h (y + 1) 0) t,
            s.stop,
            (s.gap.entry (2 * i) (omega (arith, s.gap.low)) l (omega (arith, s.gap.low))).under,
          )))
          (λ (t : 2 * i ≡ len → ⊥). omega (arith, a.0))
          (same_or (2 * i) len),
    ))
    w

pub fall_least : (h : List ℕ) (m i : ℕ) → Lesser (get_or h (2 * i) 0) (get_or h (2 * i + 1) 0) (2 * i) m → (j : ℕ) → j / 2 ≡ i → get_or h m 0 ≤ get_or h j 0
fall_least h m i w j e =
    ⊎_elim (λ (a : (m ≡ 2 * i) × (get_or h (2 * i) 0 ≤ get_or h (2 * i + 1) 0)).
    ⊎_elim (λ (s : j ≡ 2 * i). omega (arith, at m (2 * i) a.0, at j (2 * i) s))
    (λ (s : j ≡ 2 * i → ⊥). omega (arith, a.1, at m (2 * i) a.0, at j (2 * i + 1) (omega arith))) (same_or j (2 * i)))
    (λ (a : (m ≡ 2 * i + 1) × (get_or h (2 * i + 1) 0 < get_or h (2 * i) 0)).
    ⊎_elim (λ (s : j ≡ 2 * i). omega (arith, a.1, at m (2 * i + 1) a.0, at j (2 * i) s))
    (λ (s : j ≡ 2 * i → ⊥). omega (arith, at m (2 * i + 1) a.0, at j (2 * i + 1) (omega arith))) (same_or j (2 * i)))
    w
  where
    at : (x y : ℕ) → x ≡ y → get_or h x 0 ≡ get_or h y 0
    at x y t = ap (λ (k : ℕ). get_or h k 0) t

pub fall_down : {n len : ℕ} {h₀ : List ℕ} {q₀ : List ℕ} {v : ℕ} {h : List ℕ} {q : List ℕ} {i : ℕ} (m c : ℕ) → Fall n len h₀ q₀ v h q i → 2 * i ≤ len
    → Lesser (get_or h (2 * i) 0) (get_or h (2 * i + 1) 0) (2 * i) m → c ≡ cell h m → Fall n len h₀ q₀ v (set h i (get_or h m 0)) (set q c i) m
fall_down {n} {len} {h₀} {q₀} {v} {h} {q} {i} m c s l w e =
    let o = fall_in m s l w in
    rw e (record {
      gap = d_gap s.gap m o.0 o.1 (λ j a b t. fall_least h m i w j t);
      stop = get_or-set_other h i (len + 1) (get_or h m 0) 0 (omega (arith, s.gap.high)) ∙ s.stop;
      keys = λ f k. m_keys s.gap m (omega (arith, o, s.gap.low)) o.1 (omega (arith, o, s.gap.low)) f (s.keys f k);
      h_same = length-set h i (get_or h m 0) ∙ s.h_same;
      q_same = length-set q (cell h m) i ∙ s.q_same;
    })
