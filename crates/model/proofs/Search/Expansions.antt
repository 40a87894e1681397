-- An expansion over scratch lists is one of the theory's.
-- Assumes nothing.
use mathlib.Core.Path.{◌≡◌, refl, sym, ◌∙◌}
use mathlib.Core.Logic.{◌⊎◌, inl, inr}
use mathlib.Core.Bool.{Bool, true, false, cond, ◌&&◌, false≢true}
use mathlib.Core.List.{List}
use Prim.Native.Nat.{ℕ, zero, suc, ◌+◌, ◌≤◌, ◌<◌}
use native.Mathlib.Decide.{ℕ_discrete}
use native.Mathlib.Omega.{arith}
use borrow.Author.Tests.{ltb-true, ltb-false}
use lib.Dec.{ltb}
use lib.ListN.{set, length-set}
use lib.Seq.{get_or-set_same, get_or-set_other}
use Rattle.walks.specs.Search.{Relaxed, lowered, kept, Expansion}
use Rattle.walks.proofs.Relaxation.{Relaxes, relax_then, relax_as, Marked, expansion}
use Rattle.model.specs.Plot.{cells, ahead, allowed}
use Rattle.model.specs.Lent.{Scratch, scratch_with}
use Rattle.model.specs.Search.{reached, looked, expanded}
use Rattle.model.specs.Ways.{Leg, Adj}
use Rattle.model.proofs.Grid.Views.{at, view, mark_set_same, mark_set_other}
use Rattle.model.specs.Fit.{Sized}
use Rattle.model.proofs.Grid.Geometry.{allowed_on, leg_low, leg_high}

-- the four directions, one after another
abbrev Four : (ℕ → ℕ → Type 0) → ℕ → Type 0
Four P y = ((P 1 y ⊎ P 2 y) ⊎ P 3 y) ⊎ P 4 y

module _ (w h : ℕ) (ground : List ℕ) (x : ℕ) (inside : x < cells w h) where
  -- looking in one direction
  module _ (d : ℕ) (s : Scratch) (z : Sized (cells w h) s) where
    look_down : allowed w h ground x d ≡ true → at s.cost x + 1 < at s.cost (ahead w h x d)
        → Relaxes (Leg w h ground d x) (Leg w h ground) x (view (cells w h) s) (view (cells w h) (reached (ahead w h x d) (at s.cost x + 1) d s))
    look_down a lt y = go (ℕ_discrete y (ahead w h x d)) (allowed_on w h ground x d a)
      where
        leg : Leg w h ground d x (ahead w h x d)
        leg = record { inside = inside; may = a; lands = refl }

        go : Dec (y ≡ ahead w h x d) → ahead w h x d < cells w h
            → Relaxed (Leg w h ground d x) (Leg w h ground) x (view (cells w h) s)
            (view (cells w h) (reached (ahead w h x d) (at s.cost x + 1) d s)) y
        go (yes e) b =
            rw e (lowered leg lt
            (mark_set_same (cells w h) s.mark (ahead w h x d) 1 z.marks b)
            (get_or-set_same s.cost (ahead w h x d) (at s.cost x + 1) 0 (omega (arith, z.costs)))
            (rw (get_or-set_same s.trail (ahead w h x d) d 0 (omega (arith, z.trails))) leg))
        go (no n) b =
            kept (λ v. absurd (n (sym v.lands)))
            (mark_set_other (cells w h) s.mark (ahead w h x d) y 1 n)
            (get_or-set_other s.cost (ahead w h x d) y (at s.cost x + 1) 0 n)
            (get_or-set_other s.trail (ahead w h x d) y d 0 n)

    look_stay : (allowed w h ground x d ≡ true → at s.cost (ahead w h x d) ≤ at s.cost x + 1)
        → Relaxes (Leg w h ground d x) (Leg w h ground) x (view (cells w h) s) (view (cells w h) s)
    look_stay f y = kept (λ v. rw v.lands at (f v.may)) refl refl refl

    look_is : Relaxes (Leg w h ground d x) (Leg w h ground) x (view (cells w h) s) (view (cells w h) (looked w h ground x d s))
    unfolding looked
    look_is = go _ _ refl refl
      where
        go : (a b : Bool) → allowed w h ground x d ≡ a → ltb (at s.cost x + 1) (at s.cost (ahead w h x d)) ≡ b
            → Relaxes (Leg w h ground d x) (Leg w h ground) x (view (cells w h) s)
            (view (cells w h) (cond (a && b) (reached (ahead w h x d) (at s.cost x + 1) d s) s))
        go true true e f = look_down e (ltb-true _ _ f)
        go true false e f = look_stay (λ _. ltb-false _ _ f)
        go false b e f = look_stay (λ q. absurd (false≢true (sym e ∙ q)))

    pub look_sized : Sized (cells w h) (looked w h ground x d s)
    unfolding looked
    look_sized = go (allowed w h ground x d && ltb (at s.cost x + 1) (at s.cost (ahead w h x d)))
      where
        go : (b : Bool) → Sized (cells w h) (cond b (reached (ahead w h x d) (at s.cost x + 1) d s) s)
        go true = record { marks = rw length-set z.marks; costs = rw length-set z.costs; trails = rw length-set z.trails }
        go false = z

  -- the directions one by one are all the allowed steps
  four_adj : (y : ℕ) → Four (λ d y. Leg w h ground d x y) y → Adj w h ground x y
  four_adj y (inl (inl (inl v))) = record { dir = 1; leg = v }
  four_adj y (inl (inl (inr v))) = record { dir = 2; leg = v }
  four_adj y (inl (inr v)) = record { dir = 3; leg = v }
  four_adj y (inr v) = record { dir = 4; leg = v }

  adj_four : (y : ℕ) → Adj w h ground x y → Four (λ d y. Leg w h ground d x y) y
  adj_four y a = pick a.dir (leg_low a.leg) (leg_high a.leg) a.leg
    where
      pick : (d : ℕ) → 1 ≤ d → d ≤ 4 → Leg w h ground d x y → Four (λ d y. Leg w h ground d x y) y
      pick zero l k v = absurd (omega arith)
      pick (suc zero) l k v = inl (inl (inl v))
      pick (suc (suc zero)) l k v = inl (inl (inr v))
      pick (suc (suc (suc zero))) l k v = inl (inr v)
      pick (suc (suc (suc (suc zero)))) l k v = inr v
      pick (suc (suc (suc (suc (suc d))))) l k v = absurd (omega arith)

  -- marking, and then looking
  module _ (s : Scratch) (z : Sized (cells w h) s) where
    abbrev pub marked : Scratch
    marked = scratch_with (set s.mark x 2) s.cost s.trail

    marked_is : Marked x (view (cells w h) s) (view (cells w h) marked)
    marked_is = record {
      there = mark_set_same (cells w h) s.mark x 2 z.marks inside;
      elsewhere = λ y n. mark_set_other (cells w h) s.mark x y 2 n;
      costs = λ y. refl;
      trails = λ y. refl;
    }

    pub marked_sized : Sized (cells w h) marked
    marked_sized = record { marks = rw length-set z.marks; costs = z.costs; trails = z.trails }

    pub expand_is : Expansion (Adj w h ground) (Leg w h ground) x (view (cells w h) s) (view (cells w h) (expanded w h ground x s))
    unfolding expanded
    expand_is =
        let z₁ = look_sized 1 marked marked_sized in
        let z₂ = look_sized 2 _ z₁ in
        let z₃ = look_sized 3 _ z₂ in
        expansion marked_is (relax_as four_adj adj_four
        (relax_then (relax_then (relax_then (look_is 1 _ marked_sized) (look_is 2 _ z₁)) (look_is 3 _ z₂)) (look_is 4 _ z₃)))

    pub expand_sized : Sized (cells w h) (expanded w h ground x s)
    unfolding expanded
    expand_sized = look_sized 4 _ (look_sized 3 _ (look_sized 2 _ (look_sized 1 _ marked_sized)))
