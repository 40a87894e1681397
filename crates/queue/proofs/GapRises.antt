-- A gap on its way up: greater parents come down, and the key in hand is put where they left.
-- Assumes nothing.
use Prim.Native.Nat.{ℕ, ◌/◌, ◌%◌, ◌≤◌, ◌<◌}
use mathlib.Core.Path.{◌≡◌, sym, ap, ◌∙◌}
use mathlib.Core.Logic.{⊎_elim}
use mathlib.Core.List.{List}
use native.Mathlib.Omega.{arith}
use lib.ListN.{get_or, length, set, length-set}
use lib.Seq.{get_or-set_same, get_or-set_other}
use Rattle.queue.specs.Queue.{cell, IsQueue, Keys, Gap, GapKeys, Rising, Risen}
use Rattle.model.proofs.Lists.Choices.{same_or}
use Rattle.queue.proofs.Gaps.{room_kept, mk, m_hi, m_entry, m_away, m_keys}

-- up: the parent is greater than v, and comes down
module _ {n len : ℕ} {h : List ℕ} {q : List ℕ} {i v : ℕ} (r : Rising n len h q i v) (l : v < get_or h (i / 2) 0) where
  pub u_p1 : 1 ≤ i / 2
  u_p1 =
      ⊎_elim (λ (s : i / 2 ≡ 0). absurd (omega (arith, l, ap (λ (y : ℕ). get_or h y 0) s, r.gap.base))) (λ (s : i / 2 ≡ 0 → ⊥). omega arith)
      (same_or (i / 2) 0)

  pub u_p2 : i / 2 ≤ len
  u_p2 = omega (arith, r.gap.high)

  pub u_pz : i / 2 ≡ i → ⊥
  u_pz s = omega (arith, r.gap.low)

  pub u_hi : get_or (set h i (get_or h (i / 2) 0)) i 0 ≡ get_or h (i / 2) 0
  u_hi = m_hi r.gap (i / 2) u_p1 u_p2 u_pz

  pub u_ho : (j : ℕ) → (j ≡ i → ⊥) → get_or (set h i (get_or h (i / 2) 0)) j 0 ≡ get_or h j 0
  u_ho j w = get_or-set_other h i j (get_or h (i / 2) 0) 0 w

  -- the parent of the parent is no greater
  pub u_top : get_or h (i / 2 / 2) 0 ≤ get_or h (i / 2) 0
  u_top = r.gap.order (i / 2) u_p1 u_p2 u_pz (omega (arith, r.gap.low))

  pub u_child : (j : ℕ) → 1 ≤ j → j ≤ len → j / 2 ≡ i / 2 → (j ≡ i → ⊥) → get_or h (i / 2) 0 ≤ get_or h j 0
  u_child j a b e w = rw e at (r.gap.order j a b w (λ (s : j / 2 ≡ i). u_pz (sym e ∙ s)))

  pub u_gap : Gap n len (set h i (get_or h (i / 2) 0)) (set q (cell h (i / 2)) i) (i / 2) v
  u_gap = record {
    room = room_kept _ _ _ _ r.gap.room;
    small = r.gap.small;
    base = u_ho 0 (omega (arith, r.gap.low)) ∙ r.gap.base;
    fits = r.gap.fits;
    low = u_p1;
    high = u_p2;
    inside = r.gap.inside;
    under = r.gap.under;
    entry = m_entry r.gap (i / 2) u_p1 u_p2 u_pz;
    away = m_away r.gap (i / 2) u_p1 u_p2 u_pz;
    order = λ j a b w x. ⊎_elim (λ (s : j ≡ i). absurd (x (ap (λ (y : ℕ). y / 2) s)))
        (λ (s : j ≡ i → ⊥). ⊎_elim (λ (t : j / 2 ≡ i). rw (t, u_hi, u_ho j s) (r.gap.bridge j a b t))
        (λ (t : j / 2 ≡ i → ⊥). rw (u_ho j s, u_ho (j / 2) t) (r.gap.order j a b s t))
        (same_or (j / 2) i))
        (same_or j i);
    bridge =
        λ j a b e. ⊎_elim
        (λ (s : j ≡ i). omega (
          arith,
          ap (λ (y : ℕ). get_or (set h i (get_or h (i / 2) 0)) y 0) s,
          u_hi,
          u_ho (i / 2 / 2) (omega (arith, r.gap.low)),
          u_top,
        ))
        (λ (s : j ≡ i → ⊥). omega (arith, u_ho j s, u_ho (i / 2 / 2) (omega (arith, r.gap.low)), u_top, u_child j a b e s))
        (same_or j i);
  }

  pub u_over : (j : ℕ) → 1 ≤ j → j ≤ len → j / 2 ≡ i / 2 → v ≤ get_or (set h i (get_or h (i / 2) 0)) j 0
  u_over j a b e =
      ⊎_elim (λ (s : j ≡ i). omega (arith, ap (λ (y : ℕ). get_or (set h i (get_or h (i / 2) 0)) y 0) s, u_hi, l))
      (λ (s : j ≡ i → ⊥). omega (arith, u_ho j s, u_child j a b e s, l))
      (same_or j i)

-- on the way up
pub record Climb (n len : ℕ) (h₀ q₀ : List ℕ) (i₀ v : ℕ) (h q : List ℕ) (i : ℕ) : Type 0 where
  pub rising : Rising n len h q i v
  pub keys : (f : ℕ → ℕ) → GapKeys f n len h₀ q₀ i₀ v → GapKeys f n len h q i v
  pub h_same : length h ≡ length h₀
  pub q_same : length q ≡ length q₀

pub climb_up : {n len : ℕ} {h₀ : List ℕ} {q₀ : List ℕ} {i₀ v : ℕ} {h : List ℕ} {q : List ℕ} {i : ℕ} (c : ℕ) → Climb n len h₀ q₀ i₀ v h q i
    → c ≡ cell h (i / 2) → v < get_or h (i / 2) 0 → Climb n len h₀ q₀ i₀ v (set h i (get_or h (i / 2) 0)) (set q c i) (i / 2)
climb_up {n} {len} {h₀} {q₀} {i₀} {v} {h} {q} {i} c s e l = rw e (record {
  rising = record { gap = u_gap s.rising l; over = u_over s.rising l };
  keys = λ f k. m_keys s.rising.gap (i / 2) (u_p1 s.rising l) (u_p2 s.rising l) (u_pz s.rising l) f (s.keys f k);
  h_same = length-set h i (get_or h (i / 2) 0) ∙ s.h_same;
  q_same = length-set q (cell h (i / 2)) i ∙ s.q_same;
})

-- ---- v is put into the gap
module _ {n len : ℕ} {h : List ℕ} {q : List ℕ} {i v : ℕ} (r : Rising n len h q i v) (l : get_or h (i / 2) 0 ≤ v) where
  pub e_hi : get_or (set h i v) i 0 ≡ v
  e_hi = get_or-set_same h i v 0 (omega (arith, r.gap.room.heaps, r.gap.high, r.gap.fits))

  pub e_ho : (j : ℕ) → (j ≡ i → ⊥) → get_or (set h i v) j 0 ≡ get_or h j 0
  e_ho j w = get_or-set_other h i j v 0 w

  pub e_qi : get_or (set q (v % 65536) i) (v % 65536) 0 ≡ i
  e_qi = get_or-set_same q (v % 65536) i 0 (omega (arith, r.gap.room.places, r.gap.inside))

  pub e_qo : (x : ℕ) → (x ≡ v % 65536 → ⊥) → get_or (set q (v % 65536) i) x 0 ≡ get_or q x 0
  e_qo x w = get_or-set_other q (v % 65536) x i 0 w

  pub filled : IsQueue n len (set h i v) (set q (v % 65536) i)
  filled = record {
    room = room_kept _ _ _ _ r.gap.room;
    small = r.gap.small;
    base = e_ho 0 (omega (arith, r.gap.low)) ∙ r.gap.base;
    entry = λ j a b. ⊎_elim (λ (s : j ≡ i). rw s (mk v e_hi r.gap.inside e_qi r.gap.under))
        (λ (s : j ≡ i → ⊥). let e = r.gap.entry j a b s in
        mk (get_or h j 0) (e_ho j s) e.inside (e_qo (cell h j) (r.gap.away j a b s) ∙ e.spot) e.under)
        (same_or j i);
    order = λ j a b. ⊎_elim (λ (s : j ≡ i). rw (s, e_hi, e_ho (i / 2) (omega (arith, r.gap.low))) l)
        (λ (s : j ≡ i → ⊥). ⊎_elim (λ (t : j / 2 ≡ i). rw (t, e_hi, e_ho j s) (r.over j a b t))
        (λ (t : j / 2 ≡ i → ⊥). rw (e_ho j s, e_ho (j / 2) t) (r.gap.order j a b s t))
        (same_or (j / 2) i))
        (same_or j i);
  }

  pub filled_keys : (f : ℕ → ℕ) → GapKeys f n len h q i v → Keys f n len (set h i v) (set q (v % 65536) i)
  filled_keys f k = record {
    is = λ j a b. ⊎_elim (λ (s : j ≡ i). rw (s, e_hi) k.own) (λ (s : j ≡ i → ⊥). rw (e_ho j s) (k.is j a b s)) (same_or j i);
    back = λ x a b. ⊎_elim
        (λ (s : x ≡ v % 65536). let e : get_or (set q (v % 65536) i) x 0 ≡ i = ap (λ (y : ℕ). get_or (set q (v % 65536) i) y 0) s ∙ e_qi in
        let o : f x ≡ v = ap f s ∙ k.own in
        record { low = rw e r.gap.low; high = rw e r.gap.high; at = rw (e, e_hi) (sym o); named = rw o (sym s) })
        (λ (s : x ≡ v % 65536 → ⊥). let t = k.back x a b s in let e = e_qo x s in
        record { low = rw e t.low; high = rw e t.high; at = rw (e, e_ho (get_or q x 0) (k.off x a b s)) t.at; named = t.named })
        (same_or x (v % 65536));
  }

pub climb_end : {n len : ℕ} {h₀ : List ℕ} {q₀ : List ℕ} {i₀ v : ℕ} {h : List ℕ} {q : List ℕ} {i : ℕ} (c : ℕ) → Climb n len h₀ q₀ i₀ v h q i
    → c ≡ v % 65536 → get_or h (i / 2) 0 ≤ v → Risen n len h₀ q₀ i₀ v (set h i v) (set q c i)
climb_end c s e l = rw e (record { queue = filled s.rising l; keys = λ f k. filled_keys s.rising l f (s.keys f k) })
