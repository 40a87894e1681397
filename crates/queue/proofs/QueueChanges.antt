-- A cell comes in, is lowered, or goes out: the queue then holds the keys that it should, and no others.
-- Assumes nothing.
use Prim.Native.Nat.{ℕ, ◌+◌, ◌-◌, ◌/◌, ◌%◌, ◌≤◌, ◌<◌}
use mathlib.Core.Path.{◌≡◌, sym, ap, ◌∙◌}
use mathlib.Core.List.{List}
use native.Mathlib.Omega.{arith}
use lib.ListN.{get_or, set}
use lib.Seq.{get_or-set_other}
use Rattle.queue.specs.Queue.{none, cell, Entry, IsQueue, Back, Keys, Gap, GapKeys, Rising, Risen, Sunk, Absent, Waits, Lowered, Popped}
use Rattle.walks.proofs.Pigeonhole.{pigeonhole}
use Rattle.queue.proofs.Gaps.{room_heap, mk, apart, same_cell}
use Rattle.queue.proofs.GapRises.{}
use Rattle.queue.proofs.GapSinks.{}

-- NO MORE ENTRIES THAN CELLS: each entry is the key of a cell of its own.
pub queue_fits : {n len : ℕ} {h : List ℕ} {q : List ℕ} → IsQueue n len h q → len ≤ n
queue_fits {n} {len} {h} {q} s = pigeonhole len n {f = λ j. cell h (j + 1)} (record {
  below = λ j l. (s.entry (j + 1) (omega arith) (omega arith)).inside;
  apart =
      λ i j k l e. omega (
        arith,
        (s.entry (i + 1) (omega arith) (omega arith)).spot,
        (s.entry (j + 1) (omega arith) (omega arith)).spot,
        ap (λ (x : ℕ). get_or q x 0) e,
      );
})

-- ---- a new cell comes in at the end
pub push_rising : {n len : ℕ} {h : List ℕ} {q : List ℕ} {v : ℕ} → Absent n len h q v → Rising n (len + 1) h q (len + 1) v
push_rising {n} {len} {h} {q} {v} s = let g = s.queue in let l = queue_fits g in record {
  gap = record {
    room = g.room;
    small = g.small;
    base = g.base;
    fits = omega arith;
    low = omega arith;
    high = omega arith;
    inside = s.inside;
    under = s.under;
    entry = λ j a b w. g.entry j a (omega arith);
    away = λ j a b w. s.absent j a (omega arith);
    order = λ j a b w x. g.order j a (omega arith);
    bridge = λ j a b e. absurd (omega arith);
  };
  over = λ j a b e. absurd (omega arith);
}

-- a change of f at one cell
pub back_to : {f : ℕ → ℕ} {len : ℕ} {h : List ℕ} {q : List ℕ} {x : ℕ} (f' : ℕ → ℕ) (len' : ℕ) → f' x ≡ f x → len ≤ len' → Back f len h q x
    → Back f' len' h q x
back_to f' len' e l r = record { low = r.low; high = omega (arith, r.high, l); at = r.at ∙ sym e; named = rw e r.named }

-- ---- the key of a cell that waits is lowered
pub lower_rising : {n len : ℕ} {h : List ℕ} {q : List ℕ} {v : ℕ} (i : ℕ) → i ≡ get_or q (v % 65536) 0 → Waits n len h q v → Rising n len h q i v
lower_rising {n} {len} {h} {q} {v} i e s = let g = s.queue in let l = queue_fits g in rw e (record {
  gap = record {
    room = g.room;
    small = g.small;
    base = g.base;
    fits = omega arith;
    low = s.low;
    high = s.high;
    inside = s.inside;
    under = s.under;
    entry = λ j a b w. g.entry j a b;
    away = λ j a b w t. w (sym (g.entry j a b).spot ∙ ap (λ (x : ℕ). get_or q x 0) t);
    order = λ j a b w x. g.order j a b;
    bridge = λ j a b t. omega (arith, rw t at (g.order j a b), g.order (get_or q (v % 65536) 0) s.low s.high);
  };
  over = λ j a b t. omega (arith, rw t at (g.order j a b), s.less);
})

pub lower_keys : {n len : ℕ} {h : List ℕ} {q : List ℕ} {v : ℕ} (i : ℕ) → i ≡ get_or q (v % 65536) 0 → Waits n len h q v → (f f' : ℕ → ℕ)
    → Keys f n len h q
    → f' (v % 65536) ≡ v → ((x : ℕ) → (x ≡ v % 65536 → ⊥) → f' x ≡ f x) → GapKeys f' n len h q i v
lower_keys {n} {len} {h} {q} {v} i e s f f' k u o = rw e (record {
  own = u;
  is = λ j a b w. o (cell h j) (λ (t : cell h j ≡ v % 65536). w (sym (s.queue.entry j a b).spot ∙ ap (λ (x : ℕ). get_or q x 0) t)) ∙ k.is j a b;
  back = λ x a b w. back_to f' len (o x w) (omega arith) (k.back x a (rw (o x w) at b));
  off = λ x a b w t. let r = k.back x a (rw (o x w) at b) in
      w (sym r.named ∙ ap (λ (y : ℕ). y % 65536) (sym r.at ∙ ap (λ (y : ℕ). get_or h y 0) t) ∙ s.named);
})

-- ---- the first goes out: the last is in hand, and entry 1 is free
module _ {n len : ℕ} {h : List ℕ} {q : List ℕ} (g : IsQueue n len h q) (l : 1 < len) where
  pub p_ho : (j : ℕ) → (j ≡ len → ⊥) → get_or (set h len none) j 0 ≡ get_or h j 0
  p_ho j w = get_or-set_other h len j none 0 w

  pub p_last : Entry n h q len
  p_last = g.entry len (omega arith) (omega arith)

  pub p_entry : (j : ℕ) → 1 ≤ j → j ≤ len - 1 → Entry n (set h len none) q j
  p_entry j a b = let e = g.entry j a (omega arith) in mk (get_or h j 0) (p_ho j (omega arith)) e.inside e.spot e.under

  pub pop_gap : Gap n (len - 1) (set h len none) q 1 (get_or h len 0)
  pop_gap = let fit = queue_fits g in record {
    room = room_heap _ _ g.room;
    small = g.small;
    base = p_ho 0 (omega arith) ∙ g.base;
    fits = omega arith;
    low = omega arith;
    high = omega arith;
    inside = p_last.inside;
    under = p_last.under;
    entry = λ j a b w. p_entry j a b;
    away = λ j a b w t. apart (g.entry j a (omega arith)) p_last (omega arith) (sym (same_cell h (set h len none) j j (p_ho j (omega arith))) ∙ t);
    order = λ j a b w x. rw (p_ho j (omega arith), p_ho (j / 2) (omega arith)) (g.order j a (omega arith));
    bridge = λ j a b e. omega (arith, p_ho 0 (omega arith), g.base);
  }

  pub pop_keys : (f f' : ℕ → ℕ) → Keys f n len h q → f' (cell h 1) ≡ none → ((x : ℕ) → (x ≡ cell h 1 → ⊥) → f' x ≡ f x)
      → GapKeys f' n (len - 1) (set h len none) q 1 (get_or h len 0)
  pop_keys f f' k u o = record {
    own = o (cell h len) (apart p_last first (omega arith)) ∙ k.is len (omega arith) (omega arith);
    is = λ j a b w. rw (p_ho j (omega arith)) (o (cell h j) (apart (g.entry j a (omega arith)) first w) ∙ k.is j a (omega arith));
    back = λ x a b w. let r = old x a b in let z = at_last x a b w in
        record {
          low = r.low;
          high = omega (arith, r.high, z);
          at = p_ho (get_or q x 0) z ∙ r.at ∙ sym (o x (other x b));
          named = rw (o x (other x b)) r.named;
        };
    off = λ x a b w t. let r = old x a b in other x b (sym r.named ∙ ap (λ (y : ℕ). y % 65536) (sym r.at ∙ ap (λ (y : ℕ). get_or h y 0) t));
  }
    where
      first : Entry n h q 1
      first = g.entry 1 (omega arith) (omega (arith, l))

      other : (x : ℕ) → f' x < none → x ≡ cell h 1 → ⊥
      other x b s = omega (arith, b, ap f' s, u)

      old : (x : ℕ) → x < n → f' x < none → Back f len h q x
      old x a b = k.back x a (rw (o x (other x b)) at b)

      at_last : (x : ℕ) → x < n → f' x < none → (x ≡ cell h len → ⊥) → get_or q x 0 ≡ len → ⊥
      at_last x a b w t = let r = old x a b in w (sym r.named ∙ ap (λ (y : ℕ). y % 65536) (sym r.at ∙ ap (λ (y : ℕ). get_or h y 0) t))

pub lowered : {n len : ℕ} {h : List ℕ} {q : List ℕ} {v : ℕ} {h' : List ℕ} {q' : List ℕ} (i : ℕ) → i ≡ get_or q (v % 65536) 0 → Waits n len h q v
    → Risen n len h q i v h' q' → Lowered n len h q v len h' q'
lowered i e s r = record { queue = r.queue; keys = λ f f' k u o. r.keys f' (lower_keys i e s f f' k u o) }

pub popped : {n len : ℕ} {h : List ℕ} {q : List ℕ} {h₁ : List ℕ} {q₁ : List ℕ} {h₂ : List ℕ} {q₂ : List ℕ} {i : ℕ} → IsQueue n len h q → 1 < len
    → Sunk n (len - 1) (set h len none) q (get_or h len 0) i h₁ q₁ → Risen n (len - 1) h₁ q₁ i (get_or h len 0) h₂ q₂ → Popped n len h q h₂ q₂
popped g l a b = record { queue = b.queue; keys = λ f f' k u o. b.keys f' (a.keys f' (pop_keys g l f f' k u o)) }
