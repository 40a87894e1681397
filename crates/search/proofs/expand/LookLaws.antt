-- The queue goes with scratch after a look at a cell and its leaving the queue; four looks are an expansion.
-- Assumes nothing.
use Prim.Native.Nat.{ℕ, zero, suc, ◌+◌, ◌-◌, ◌%◌, ◌≤◌, ◌<◌}
use mathlib.Core.Path.{◌≡◌, refl, sym, ap, ◌∙◌}
use mathlib.Core.Bool.{Bool, true, false, cond, ◌&&◌}
use mathlib.Core.List.{List}
use native.Mathlib.Numerals.{add-one}
use native.Mathlib.Omega.{arith}
use borrow.Author.Tests.{eq-eqb, ne_eqb, lt-ltb, le-ltb, ltb-true}
use lib.Dec.{ltb}
use lib.ListN.{get_or, set, length-set}
use lib.Seq.{get_or-set_same, get_or-set_other}
use Rattle.model.specs.Plot.{cells, ahead, free, allowed}
use Rattle.model.specs.Lent.{Scratch, scratch_with}
use Rattle.model.specs.Search.{reached, looked, expanded}
use Rattle.std.specs.Prelude.{Some, None}
use Rattle.grid.specs.declared.plot.Plot.{Plot}
use Rattle.grid.specs.CellOn.{cell_on}
use Rattle.grid.proofs.CellLaws.{some_on, none_off}
use Rattle.queue.specs.Queue.{key_of, none, Absent, Waits, Lowered, Popped}
use Rattle.queue.proofs.KeyOrder.{key_cell}
use Rattle.search.specs.Waiting.{key_for, looked_at, looks_to, Queued, Did}

module _ (learned : List ℕ) (s : Scratch) (x : ℕ) where
  pub key_waits : get_or s.mark x 0 ≡ 1 → key_for learned s x ≡ key_of (get_or s.cost x 0) (get_or learned x 0) x
  unfolding key_for
  key_waits e = simp (eq-eqb (get_or s.mark x 0) 1 e)

  pub key_none : (get_or s.mark x 0 ≡ 1 → ⊥) → key_for learned s x ≡ none
  unfolding key_for
  key_none n = simp (ne_eqb (get_or s.mark x 0) 1 n)

-- A cell y comes in, or is lowered, with key v for the cost g ------------------------------------------------------------------------

module _ {n : ℕ} {l : List ℕ} {s : Scratch} {len : ℕ} {h q : List ℕ} (a : Queued n l s len h q) (y g v : ℕ) (i : y < n)
    (e : v ≡ key_of g (get_or l y 0) y) where
  cell_y : v % 65536 ≡ y
  cell_y = ap (λ (x : ℕ). x % 65536) e ∙ key_cell g (get_or l y 0) y (omega (arith, a.queue.small))

  pub comes_in : v ≤ none → (get_or s.mark y 0 ≡ 1 → ⊥) → Absent n len h q v
  comes_in fits w = record {
    queue = a.queue;
    inside = omega (arith, cell_y);
    under = omega (arith, cell_y, a.queue.small);
    absent = λ j b d t. omega (arith, (a.queue.entry j b d).under, a.keys.is j b d, ap (key_for l s) (t ∙ cell_y), key_none l s y w);
  }

  pub is_lowered : g ≤ get_or s.cost y 0 → get_or s.cost y 0 ≤ 65535 → get_or l y 0 ≤ 65535 → get_or s.mark y 0 ≡ 1 → Waits n len h q v
  is_lowered le b₁ b₂ w =
      let f = key_waits l s y w in
      let r = a.keys.back y i (omega (arith, f, b₁, b₂, a.queue.small)) in
      record {
        queue = a.queue;
        inside = omega (arith, cell_y);
        under = omega (arith, e, le, b₁, b₂, a.queue.small);
        low = rw cell_y r.low;
        high = rw cell_y r.high;
        named = rw (cell_y, r.at) r.named;
        less = rw (cell_y, r.at, f) (omega (arith, e, le, b₁, a.queue.small));
      }

  pub queued_reached : (d len' : ℕ) (h' q' : List ℕ) → Lowered n len h q v len' h' q' → Queued n l (reached y g d s) len' h' q'
  unfolding key_for
  queued_reached d len' h' q' u = record {
    some = a.some;
    learneds = a.learneds;
    sized = record { marks = rw length-set a.sized.marks; costs = rw length-set a.sized.costs; trails = rw length-set a.sized.trails };
    queue = u.queue;
    keys = u.keys (key_for l s) (key_for l (reached y g d s)) a.keys
        (rw cell_y
        (simp (get_or-set_same s.mark y 1 0 (omega (arith, a.sized.marks)), get_or-set_same s.cost y g 0 (omega (arith, a.sized.costs)))
        (sym e)))
        (λ x z. let z' : x ≡ y → ⊥ = λ (t : x ≡ y). z (t ∙ sym cell_y) in
        simp (get_or-set_other s.mark y x 1 0 z', get_or-set_other s.cost y x g 0 z'));
  }

-- The first of the queue goes out, and is marked expanded -----------------------------------------------------------------------------

pub queued_out : {n : ℕ} {l : List ℕ} {s : Scratch} {len : ℕ} {h q : List ℕ} (x : ℕ) (h' q' : List ℕ) → Queued n l s len h q → 1 ≤ len
    → x ≡ get_or h 1 0 % 65536
    → Popped n len h q h' q' → Queued n l (scratch_with (set s.mark x 2) s.cost s.trail) (len - 1) h' q'
unfolding key_for
queued_out {n} {l} {s} x h' q' a b e u = record {
  some = a.some;
  learneds = a.learneds;
  sized = record { marks = rw length-set a.sized.marks; costs = a.sized.costs; trails = a.sized.trails };
  queue = u.queue;
  keys = u.keys (key_for l s) (key_for l (scratch_with (set s.mark x 2) s.cost s.trail)) a.keys
      (rw (← e) (simp (get_or-set_same s.mark x 2 0 (omega (arith, e, a.sized.marks, (a.queue.entry 1 (omega arith) b).inside)))))
      (λ k z. simp (get_or-set_other s.mark x k 2 0 (λ (t : k ≡ x). z (t ∙ e))));
}

-- the first of the queue is a cell of the plot
pub first_on : {n : ℕ} {l : List ℕ} {s : Scratch} {len : ℕ} {h q : List ℕ} {x : ℕ} → Queued n l s len h q → 1 ≤ len → x ≡ get_or h 1 0 % 65536 → x < n
first_on a b e = omega (arith, e, (a.queue.entry 1 (omega arith) b).inside)

-- The four ways through a look --------------------------------------------------------------------------------------------------------

module _ (ground : List ℕ) (n y g d : ℕ) (s : Scratch) where
  pub look_off : n ≤ y → s ≡ looked_at ground n y g d s
  unfolding looked_at
  look_off a = simp (le-ltb y n a)

  pub look_blocked : y < n → (get_or ground y 0 ≡ 0 → ⊥) → s ≡ looked_at ground n y g d s
  unfolding looked_at
  look_blocked a b = simp (lt-ltb y n a, ne_eqb (get_or ground y 0) 0 b)

  pub look_dear : y < n → get_or ground y 0 ≡ 0 → get_or s.cost y 0 ≤ g → s ≡ looked_at ground n y g d s
  unfolding looked_at
  look_dear a b e = simp (lt-ltb y n a, eq-eqb (get_or ground y 0) 0 b, le-ltb g (get_or s.cost y 0) e)

  pub look_reach : y < n → get_or ground y 0 ≡ 0 → g < get_or s.cost y 0 → reached y g d s ≡ looked_at ground n y g d s
  unfolding looked_at
  look_reach a b e = simp (lt-ltb y n a, eq-eqb (get_or ground y 0) 0 b, lt-ltb g (get_or s.cost y 0) e)

-- Four looks ---------------------------------------------------------------------------------------------------------------------------

module _ (w h : ℕ) (ground : List ℕ) (c : ℕ) (f : free ground c ≡ true) where
  -- a look from a free cell
  look_is : (d g : ℕ) (s : Scratch) → g ≡ get_or s.cost c 0 + 1 → looked_at ground (cells w h) (ahead w h c d) g d s ≡ looked w h ground c d s
  unfolding looked_at looked allowed
  look_is d g s e =
      rw (e, f) (go (ltb (ahead w h c d) (cells w h)) (free ground (ahead w h c d)) (ltb (get_or s.cost c 0 + 1) (get_or s.cost (ahead w h c d) 0)))
    where
      go : (t u v : Bool) → cond (t && (u && v)) (reached (ahead w h c d) (get_or s.cost c 0 + 1) d s) s
          ≡ cond ((t && u) && v) (reached (ahead w h c d) (get_or s.cost c 0 + 1) d s) s
      go true u v = refl
      go false u v = refl

  -- a look leaves the cost of the cell that looks
  look_own : (d : ℕ) (s : Scratch) → get_or (looked w h ground c d s).cost c 0 ≡ get_or s.cost c 0
  unfolding looked
  look_own d s = go (allowed w h ground c d) _ refl
    where
      go : (t u : Bool) → ltb (get_or s.cost c 0 + 1) (get_or s.cost (ahead w h c d) 0) ≡ u
          → get_or (cond (t && u) (reached (ahead w h c d) (get_or s.cost c 0 + 1) d s) s).cost c 0 ≡ get_or s.cost c 0
      go true true e =
          get_or-set_other s.cost (ahead w h c d) c _ 0
          (λ q. absurd
          (omega (arith, ltb-true (get_or s.cost c 0 + 1) (get_or s.cost (ahead w h c d) 0) e, ap (λ (k : ℕ). get_or s.cost k 0) q)))
      go true false e = refl
      go false u e = refl

  -- so it costs what it did, however often it has looked
  looks_own : (k : ℕ) (s : Scratch) → get_or (looks_to w h ground c k s).cost c 0 ≡ get_or s.cost c 0
  unfolding looks_to
  looks_own zero s = refl
  looks_own (suc k) s = look_own (k + 1) (looks_to w h ground c k s) ∙ looks_own k s

  -- one direction more
  look_next : (k g y : ℕ) (s t u : Scratch) → g ≡ get_or s.cost c 0 + 1 → y ≡ ahead w h c (k + 1) → t ≡ looks_to w h ground c k s
      → u ≡ looked_at ground (cells w h) y g (k + 1) t → u ≡ looks_to w h ground c (k + 1) s
  unfolding looks_to
  look_next k g y s t u e f q r =
      let one : looks_to w h ground c (k + 1) s ≡ looked w h ground c (k + 1) (looks_to w h ground c k s) =
      ap (λ (m : ℕ). looks_to w h ground c m s) (add-one k) in
      r ∙ (rw (f, q) (look_is (k + 1) g (looks_to w h ground c k s) (e ∙ ap (λ (m : ℕ). m + 1) (sym (looks_own k s))))) ∙ sym one

-- On the way through the directions ------------------------------------------------------------------------------------------------

-- cell c is marked, and looks in direction d next
pub record Looking (p : Plot) (ground learned : List ℕ) (c : ℕ) (s : Scratch) (d : ℕ) (t : Scratch) (n len : ℕ) (heap place : List ℕ) : Type 0 where
  pub is : t ≡ looks_to p.width p.height ground c (d - 1) s
  pub queued : Queued n learned t len heap place
  pub count : n ≡ p.cells

module _ (p : Plot) {ground learned : List ℕ} {c : ℕ} {s : Scratch} {n : ℕ} where
  pub looks_begin : {len : ℕ} {h q : List ℕ} → n ≡ p.cells → Queued n learned s len h q → Looking p ground learned c s 1 s n len h q
  unfolding looks_to
  looks_begin k a = record { is = refl; queued = a; count = k }

  module _ {d : ℕ} {t : Scratch} {len : ℕ} {heap place : List ℕ} (a : Looking p ground learned c s d t n len heap place) (low : 1 ≤ d)
      (f : free ground c ≡ true) (g : ℕ) (e : g ≡ get_or s.cost c 0 + 1) where
    looks_next : (u : Scratch) → u ≡ looked_at ground (cells p.width p.height) (ahead p.width p.height c d) g d t
        → u ≡ looks_to p.width p.height ground c (d + 1 - 1) s
    looks_next u r =
        let q : d - 1 + 1 ≡ d = omega arith in
        let z : d + 1 - 1 ≡ d - 1 + 1 = omega arith in
        rw z (look_next p.width p.height ground c f (d - 1) g (ahead p.width p.height c d) s t u e (rw q refl) a.is (rw q r))

    -- the direction leads to a cell, or off the plot
    pub looks_on : (y : ℕ) (u : Scratch) (len' : ℕ) (heap' place' : List ℕ) → Some y ≡ cell_on p.cells (ahead p.width p.height c d)
        → Did n learned (looked_at ground n y g d t) u len' heap' place' → Looking p ground learned c s (d + 1) u n len' heap' place'
    looks_on y u len' heap' place' o r =
        let z : n ≡ cells p.width p.height = omega (arith, a.count, p.product) in
        record { is = looks_next u (rw (z, (some_on o).same) at r.is); queued = r.queued; count = a.count }

    pub looks_off : None ≡ cell_on p.cells (ahead p.width p.height c d) → Looking p ground learned c s (d + 1) t n len heap place
    looks_off o = record {
      is = looks_next t (look_off ground (cells p.width p.height) (ahead p.width p.height c d) g d t (omega (arith, p.product, none_off o)));
      queued = a.queued;
      count = a.count;
    }

-- four directions from the marked cell are an expansion
pub looks_done : (p : Plot) {ground learned : List ℕ} {c : ℕ} (s : Scratch) {d : ℕ} {t : Scratch} {n len : ℕ} {heap place : List ℕ}
    → Looking p ground learned c (scratch_with (set s.mark c 2) s.cost s.trail) d t n len heap place → d ≡ 5
    → Did n learned (expanded p.width p.height ground c s) t len heap place
unfolding expanded looks_to
looks_done p s a e = record { is = rw e at a.is; queued = a.queued }
