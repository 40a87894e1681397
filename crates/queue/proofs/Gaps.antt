-- A gap in the heap: the key of an entry goes there, and the entry is the gap.
-- Assumes nothing.
use Prim.Native.Nat.{ℕ, ◌%◌, ◌≤◌, ◌<◌}
use mathlib.Core.Path.{◌≡◌, sym, ap, ◌∙◌}
use mathlib.Core.Logic.{⊎_elim}
use mathlib.Core.List.{List}
use native.Mathlib.Omega.{arith}
use lib.ListN.{get_or, set, length-set}
use lib.Seq.{get_or-set_same, get_or-set_other}
use Rattle.queue.specs.Queue.{none, cell, QueueRoom, Entry, Back, Gap, GapKeys}
use Rattle.model.proofs.Lists.Choices.{same_or}

-- a store in either list leaves the room
pub room_kept : {n : ℕ} {h q : List ℕ} (i v x j : ℕ) → QueueRoom n h q → QueueRoom n (set h i v) (set q x j)
room_kept i v x j r = record { heaps = rw length-set r.heaps; places = rw length-set r.places }

pub room_heap : {n : ℕ} {h q : List ℕ} (i v : ℕ) → QueueRoom n h q → QueueRoom n (set h i v) q
room_heap i v r = record { heaps = rw length-set r.heaps; places = r.places }

-- ---- entries
pub mk : {n : ℕ} {h : List ℕ} {q : List ℕ} {j : ℕ} (k : ℕ) → get_or h j 0 ≡ k → k % 65536 < n → get_or q (k % 65536) 0 ≡ j → k < none → Entry n h q j
mk k e a b c = record { inside = rw e a; spot = rw e b; under = rw e c }

pub apart : {n : ℕ} {h : List ℕ} {q : List ℕ} {j m : ℕ} → Entry n h q j → Entry n h q m → (j ≡ m → ⊥) → cell h j ≡ cell h m → ⊥
apart {n} {h} {q} {j} {m} a b z s = z (sym a.spot ∙ ap (λ (x : ℕ). get_or q x 0) s ∙ b.spot)

pub same_cell : (h h' : List ℕ) (j k : ℕ) → get_or h' j 0 ≡ get_or h k 0 → cell h' j ≡ cell h k
same_cell h h' j k e = ap (λ (x : ℕ). x % 65536) e

-- ---- the key of entry m goes to the gap i, and m is the gap
module _ {n len : ℕ} {h : List ℕ} {q : List ℕ} {i v : ℕ} (g : Gap n len h q i v) (m : ℕ) (m1 : 1 ≤ m) (m2 : m ≤ len) (z : m ≡ i → ⊥) where
  pub m_em : Entry n h q m
  m_em = g.entry m m1 m2 z

  pub m_hi : get_or (set h i (get_or h m 0)) i 0 ≡ get_or h m 0
  m_hi = get_or-set_same h i (get_or h m 0) 0 (omega (arith, g.room.heaps, g.high, g.fits))

  pub m_ho : (j : ℕ) → (j ≡ i → ⊥) → get_or (set h i (get_or h m 0)) j 0 ≡ get_or h j 0
  m_ho j w = get_or-set_other h i j (get_or h m 0) 0 w

  pub m_qi : get_or (set q (cell h m) i) (cell h m) 0 ≡ i
  m_qi = get_or-set_same q (cell h m) i 0 (omega (arith, g.room.places, m_em.inside))

  pub m_qo : (x : ℕ) → (x ≡ cell h m → ⊥) → get_or (set q (cell h m) i) x 0 ≡ get_or q x 0
  m_qo x w = get_or-set_other q (cell h m) x i 0 w

  pub m_entry : (j : ℕ) → 1 ≤ j → j ≤ len → (j ≡ m → ⊥) → Entry n (set h i (get_or h m 0)) (set q (cell h m) i) j
  m_entry j a b w =
      ⊎_elim (λ (s : j ≡ i). rw s (mk (get_or h m 0) m_hi m_em.inside m_qi m_em.under))
      (λ (s : j ≡ i → ⊥). let e = g.entry j a b s in mk (get_or h j 0) (m_ho j s) e.inside (m_qo (cell h j) (apart e m_em w) ∙ e.spot) e.under)
      (same_or j i)

  pub m_away : (j : ℕ) → 1 ≤ j → j ≤ len → (j ≡ m → ⊥) → cell (set h i (get_or h m 0)) j ≡ v % 65536 → ⊥
  m_away j a b w e =
      ⊎_elim
      (λ (s : j ≡ i). g.away m m1 m2 z (sym (same_cell h (set h i (get_or h m 0)) j m (ap (λ (x : ℕ). get_or (set h i (get_or h m 0)) x 0) s ∙ m_hi))
      ∙ e))
      (λ (s : j ≡ i → ⊥). g.away j a b s (sym (same_cell h (set h i (get_or h m 0)) j j (m_ho j s)) ∙ e))
      (same_or j i)

  module _ (f : ℕ → ℕ) (k : GapKeys f n len h q i v) where
    pub m_is : (j : ℕ) → 1 ≤ j → j ≤ len → (j ≡ m → ⊥) → f (cell (set h i (get_or h m 0)) j) ≡ get_or (set h i (get_or h m 0)) j 0
    m_is j a b w =
        ⊎_elim (λ (s : j ≡ i). rw (s, m_hi) (k.is m m1 m2 z))
        (λ (s : j ≡ i → ⊥). rw (m_ho j s) (k.is j a b s))
        (same_or j i)

    -- a waiting cell is that of entry m, or stands elsewhere
    pub m_found : (x : ℕ) → x < n → f x < none → (x ≡ v % 65536 → ⊥) → get_or q x 0 ≡ m → x ≡ cell h m
    m_found x a b c s = let r = k.back x a b c in sym r.named ∙ ap (λ (y : ℕ). y % 65536) (sym r.at ∙ ap (λ (y : ℕ). get_or h y 0) s)

    pub m_back : (x : ℕ) → x < n → f x < none → (x ≡ v % 65536 → ⊥) → Back f len (set h i (get_or h m 0)) (set q (cell h m) i) x
    m_back x a b c =
        let r = k.back x a b c in
        ⊎_elim (λ (s : x ≡ cell h m). let e : get_or (set q (cell h m) i) x 0 ≡ i = ap (λ (y : ℕ). get_or (set q (cell h m) i) y 0) s ∙ m_qi in
        record { low = rw e g.low; high = rw e g.high; at = rw (e, m_hi) (sym (k.is m m1 m2 z) ∙ ap f (sym s)); named = r.named })
        (λ (s : x ≡ cell h m → ⊥). let e = m_qo x s in
        record { low = rw e r.low; high = rw e r.high; at = rw (e, m_ho (get_or q x 0) (k.off x a b c)) r.at; named = r.named })
        (same_or x (cell h m))

    pub m_off : (x : ℕ) → x < n → f x < none → (x ≡ v % 65536 → ⊥) → get_or (set q (cell h m) i) x 0 ≡ m → ⊥
    m_off x a b c e =
        ⊎_elim (λ (s : x ≡ cell h m). z (sym e ∙ ap (λ (y : ℕ). get_or (set q (cell h m) i) y 0) s ∙ m_qi))
        (λ (s : x ≡ cell h m → ⊥). s (m_found x a b c (sym (m_qo x s) ∙ e)))
        (same_or x (cell h m))

    pub m_keys : GapKeys f n len (set h i (get_or h m 0)) (set q (cell h m) i) m v
    m_keys = record { own = k.own; is = m_is; back = m_back; off = m_off }
