-- What a search leaves in scratch where it saw nothing: unseen cells cost 65,535 and have no trail, and neither has the
-- cart's cell.
-- Assumes nothing.
use mathlib.Core.Path.{◌≡◌, refl, sym, ap, ◌∙◌}
use mathlib.Core.Logic.{◌≢◌}
use mathlib.Core.Bool.{Bool, true, false, cond, ◌&&◌}
use mathlib.Core.List.{List}
use Prim.Native.Nat.{ℕ, zero, suc, ◌+◌, ◌<◌}
use native.Mathlib.Omega.{arith}
use borrow.Author.Tests.{ltb-true}
use lib.Dec.{ltb, eqb}
use lib.ListN.{get_or, set}
use lib.Seq.{get_or-set_same, get_or-set_other}
use Rattle.model.specs.Lists.{filled, each}
use Rattle.model.specs.Plot.{cells, ahead, allowed}
use Rattle.model.specs.Lent.{Lent, Scratch, scratch_with}
use Rattle.model.specs.Search.{unseen_cost, begun, reached, looked, expanded, stopped_at, nothing_waits, first, run}
use Rattle.model.proofs.Lists.Filled.{length_filled, filled_at}
use Rattle.model.proofs.Grid.Geometry.{allowed_on}
use Rattle.model.specs.Fit.{Sized}
use Rattle.model.proofs.Search.Order.{Best, best_is}
use Rattle.model.proofs.Search.Expansions.{look_sized, marked_sized, expand_sized}
use Rattle.model.proofs.Search.SearchInvariant.{iteration}
use Rattle.model.proofs.Search.SearchEnds.{scratch_of, begun_sized}

pub record Blank (n cell : ℕ) (s : Scratch) : Type 0 where
  pub cost : (x : ℕ) → x < n → get_or s.mark x 0 ≡ 0 → get_or s.cost x 0 ≡ unseen_cost
  pub trail : (x : ℕ) → x < n → get_or s.mark x 0 ≡ 0 → get_or s.trail x 0 ≡ 0
  pub cart_cost : get_or s.cost cell 0 ≡ 0
  pub cart_trail : get_or s.trail cell 0 ≡ 0

-- a cell that is marked is no longer unseen, and the others are as they were
marked_blank : {n cell : ℕ} (s : Scratch) (x v : ℕ) (cost trail : List ℕ) → Sized n s → x < n → v ≢ 0
    → ((y : ℕ) → y ≢ x → get_or cost y 0 ≡ get_or s.cost y 0) → ((y : ℕ) → y ≢ x → get_or trail y 0 ≡ get_or s.trail y 0)
    → get_or cost cell 0 ≡ 0 → get_or trail cell 0 ≡ 0 → Blank n cell s → Blank n cell (scratch_with (set s.mark x v) cost trail)
marked_blank {n} {cell} s x v cost trail z i some costs trails c t b = record {
  cost = λ y j e. let d = other y e in costs y d ∙ b.cost y j (sym (get_or-set_other s.mark x y v 0 d) ∙ e);
  trail = λ y j e. let d = other y e in trails y d ∙ b.trail y j (sym (get_or-set_other s.mark x y v 0 d) ∙ e);
  cart_cost = c;
  cart_trail = t;
}
  where
    other : (y : ℕ) → get_or (set s.mark x v) y 0 ≡ 0 → y ≢ x
    other y e q = some (sym (get_or-set_same s.mark x v 0 (omega (arith, z.marks))) ∙ sym (ap (λ (k : ℕ). get_or (set s.mark x v) k 0) q) ∙ e)

module _ (w h cell : ℕ) (ground : List ℕ) where
  look_blank : (c d : ℕ) (s : Scratch) → c < cells w h → Sized (cells w h) s → Blank (cells w h) cell s
      → Blank (cells w h) cell (looked w h ground c d s)
  unfolding looked
  look_blank c d s i z b = go _ _ refl refl
    where
      go : (t u : Bool) → allowed w h ground c d ≡ t → ltb (get_or s.cost c 0 + 1) (get_or s.cost (ahead w h c d) 0) ≡ u
          → Blank (cells w h) cell (cond (t && u) (reached (ahead w h c d) (get_or s.cost c 0 + 1) d s) s)
      go true true e f =
          let y = ahead w h c d in
          let cart : cell ≢ y =
          λ q. absurd
          (omega (arith, ltb-true (get_or s.cost c 0 + 1) (get_or s.cost y 0) f, b.cart_cost, ap (λ (k : ℕ). get_or s.cost k 0) q)) in
          marked_blank s y 1 _ _ z (allowed_on w h ground c d e) (omega arith)
          (λ x n. get_or-set_other s.cost y x (get_or s.cost c 0 + 1) 0 n) (λ x n. get_or-set_other s.trail y x d 0 n)
          (get_or-set_other s.cost y cell (get_or s.cost c 0 + 1) 0 cart ∙ b.cart_cost) (get_or-set_other s.trail y cell d 0 cart ∙ b.cart_trail)
          b
      go true false e f = b
      go false u e f = b

  expand_blank : (c : ℕ) (s : Scratch) → c < cells w h → Sized (cells w h) s → Blank (cells w h) cell s
      → Blank (cells w h) cell (expanded w h ground c s)
  unfolding expanded
  expand_blank c s i z b =
      let z₀ = marked_sized w h ground c i s z in
      let z₁ = look_sized w h ground c i 1 _ z₀ in
      let z₂ = look_sized w h ground c i 2 _ z₁ in
      let z₃ = look_sized w h ground c i 3 _ z₂ in
      let b₀ = marked_blank s c 2 s.cost s.trail z i (omega arith) (λ _ _. refl) (λ _ _. refl) b.cart_cost b.cart_trail b in
      look_blank c 4 _ i z₃ (look_blank c 3 _ i z₂ (look_blank c 2 _ i z₁ (look_blank c 1 _ i z₀ b₀)))

run_blank : (w h cell : ℕ) (p : Lent) (stops : ℕ → Bool) (iterations : ℕ) (s : Scratch) → Sized (cells w h) s → Blank (cells w h) cell s
    → Blank (cells w h) cell (scratch_of (run w h p stops iterations s))
unfolding run
run_blank w h cell p stops zero s z b = b
run_blank w h cell p stops (suc iterations) s z b =
    ended (first w h p s) (best_is (cells w h) p.learned s (cells w h) (omega arith)) (run_blank w h cell p stops iterations)
  where
    ended : (c : ℕ) → Best (cells w h) p.learned s (cells w h) c
        → ((t : Scratch) → Sized (cells w h) t → Blank (cells w h) cell t → Blank (cells w h) cell (scratch_of (run w h p stops iterations t)))
        → Blank (cells w h) cell (scratch_of (elim (eqb c (cells w h)) [
          | true ↦ nothing_waits s
          | false ↦ elim (stops c) [ true ↦ stopped_at c s | false ↦ run w h p stops iterations (expanded w h p.ground c s) ]
        ]))
    ended c best rest = iteration (λ a d. Blank (cells w h) cell (scratch_of (elim a [
      | true ↦ nothing_waits s
      | false ↦ elim d [ true ↦ stopped_at c s | false ↦ run w h p stops iterations (expanded w h p.ground c s) ]
    ]))) (cells w h) p.learned s stops c best (λ _ _. b) (λ _ _. b)
        (λ t _. rest (expanded w h p.ground c s) (expand_sized w h p.ground c t.below s z)
        (expand_blank w h cell p.ground c s t.below z b))

begun_blank : (n cell : ℕ) (s : Scratch) → Sized n s → cell < n → Blank n cell (begun n cell s)
unfolding begun
begun_blank n cell s z i = record {
  cost =
      λ x j e. get_or-set_other (filled n (each unseen_cost) s.cost) cell x 0 0 (other x e) ∙ filled_at n (each unseen_cost) s.cost z.costs x j;
  trail = λ x j e. filled_at n (each 0) s.trail z.trails x j;
  cart_cost = get_or-set_same (filled n (each unseen_cost) s.cost) cell 0 0 (simp length_filled (omega (arith, z.costs)));
  cart_trail = filled_at n (each 0) s.trail z.trails cell i;
}
  where
    other : (x : ℕ) → get_or (set (filled n (each 0) s.mark) cell 1) x 0 ≡ 0 → x ≢ cell
    other x e q =
        absurd
        (omega (
          arith,
          get_or-set_same (filled n (each 0) s.mark) cell 1 0 (simp length_filled (omega (arith, z.marks))),
          ap (λ (k : ℕ). get_or (set (filled n (each 0) s.mark) cell 1) k 0) q,
        ))

-- "65,535 for unseen"; "0 for the cart's cell and for unseen cells": after any search.
pub search_blank : (w h cell : ℕ) (p : Lent) (stops : ℕ → Bool) (s : Scratch) → Sized (cells w h) s → cell < cells w h
    → Blank (cells w h) cell (scratch_of (run w h p stops (cells w h) (begun (cells w h) cell s)))
search_blank w h cell p stops s z i =
    run_blank w h cell p stops (cells w h) (begun (cells w h) cell s) (begun_sized w h cell p.ground s z i) (begun_blank (cells w h) cell s z i)
