-- Soundness reads the first N entries alone.
-- Assumes nothing.
use mathlib.Core.Path.{◌≡◌, sym, ◌∙◌}
use mathlib.Core.Logic.{◌≢◌}
use mathlib.Core.Bool.{true}
use Prim.Native.Nat.{ℕ, ◌<◌}
use native.Mathlib.Omega.{arith}
use lib.ListN.{get_or}
use Rattle.model.specs.Plot.{cells, free, allowed}
use Rattle.model.specs.Lent.{Lent}
use Rattle.model.proofs.Grid.Geometry.{allowed_here, allowed_on, allowed_free, allow}
use Rattle.model.specs.Fit.{Linked, Fit, Placed}

pub record SameEntries (n : ℕ) (p q : Lent) : Type 0 where
  pub ground : (c : ℕ) → c < n → get_or p.ground c 0 ≡ get_or q.ground c 0
  pub learned : (c : ℕ) → c < n → get_or p.learned c 0 ≡ get_or q.learned c 0
  pub link : (c : ℕ) → c < n → get_or p.link c 0 ≡ get_or q.link c 0

-- the same steps are allowed
pub allowed_same : (w h : ℕ) (p q : Lent) → ((c : ℕ) → c < cells w h → get_or p.ground c 0 ≡ get_or q.ground c 0) → (c d : ℕ) → c < cells w h
    → allowed w h p.ground c d ≡ true → allowed w h q.ground c d ≡ true
allowed_same w h p q e c d i a =
    let j = allowed_on w h p.ground c d a in
    allow w h q.ground c d (free_same c i (allowed_here w h p.ground c d a)) j (free_same _ j (allowed_free w h p.ground c d a))
  where
    free_same : (x : ℕ) → x < cells w h → free p.ground x ≡ true → free q.ground x ≡ true
    free_same x l f = rw (e x l) at f

module _ {w h goal cell : ℕ} (p q : Lent) (r : Placed w h goal cell) (f : Fit w h goal cell p) (e : SameEntries (cells w h) p q) where
  link_same : (c : ℕ) → c < cells w h → get_or q.link c 0 ≢ 0 → Linked w h goal q.ground q.link c
  link_same c i n =
      let k = e.link c i in
      let l = f.links c i (λ z. n (sym k ∙ z)) in
      record { away = l.away; may = rw (← k) (allowed_same w h p q e.ground c _ i l.may) }

  pub fit_same : Fit w h goal cell q
  fit_same = record {
    ground = λ c i. omega (arith, e.ground c i, f.ground c i);
    cart = rw (e.ground cell r.cart_on) at f.cart;
    learned = λ c i. omega (arith, e.learned c i, f.learned c i);
    zero_there = sym (e.learned goal r.goal_on) ∙ f.zero_there;
    close = λ c d i a.
        let j = allowed_on w h q.ground c d a in
        omega (arith, e.learned c i, e.learned _ j, f.close c d i (allowed_same w h q p (λ x l. sym (e.ground x l)) c d i a));
    links = link_same;
  }
