-- Learned values raised along a list of the expanded cells are those raised over all cells.
-- Assumes nothing.
use Prim.Native.Nat.{ℕ, zero, suc, ◌+◌, ◌-◌, ◌≤◌, ◌<◌}
use mathlib.Core.Path.{◌≡◌, refl, sym, ap, ◌∙◌}
use mathlib.Core.List.{List}
use native.Mathlib.Decide.{ℕ_discrete, dec_lt}
use native.Mathlib.Numerals.{add-one}
use native.Mathlib.Omega.{arith}
use lib.ListN.{length, get_or, set, take, drop, length-set}
use lib.Seq.{get_or-set_same, get_or-set_other, ext_get_or, take_all}
use Rattle.model.specs.Lists.{filled}
use Rattle.model.specs.Plan.{lesson}
use Rattle.model.proofs.Lists.Filled.{length_filled, filled_above, filled_at}
use Rattle.model.proofs.Search.Lessons.{lesson_yes, lesson_no}
use Rattle.search.specs.Listed.{Listed}
use Rattle.replan.specs.Raised.{raised_to}

-- l is l₀ raised along the first k entries
pub record Raised (steps : ℕ) (cost list : List ℕ) (k : ℕ) (l₀ l : List ℕ) : Type 0 where
  pub is : l ≡ raised_to steps cost list k l₀
  pub long : length l ≡ length l₀

module _ {steps : ℕ} {cost list : List ℕ} where
  pub raise_begin : (l : List ℕ) → Raised steps cost list 0 l l
  unfolding raised_to
  raise_begin l = record { is = refl; long = refl }

  -- one entry more
  pub raise_next : {k : ℕ} {l₀ l : List ℕ} (v : ℕ) → Raised steps cost list k l₀ l → v ≡ steps - get_or cost (get_or list k 0) 0
      → Raised steps cost list (k + 1) l₀ (set l (get_or list k 0) v)
  unfolding raised_to
  raise_next {k} {l₀} {l} v r e = record { is = rw (add-one k, r.is, e); long = length-set l (get_or list k 0) v ∙ r.long }

module _ (steps : ℕ) (cost list l : List ℕ) where
  length_raised : (k : ℕ) → length (raised_to steps cost list k l) ≡ length l
  unfolding raised_to
  length_raised zero = refl
  length_raised (suc k) = length-set (raised_to steps cost list k l) (get_or list k 0) _ ∙ length_raised k

  -- a cell that is not in the list keeps its value
  raised_other : (k x : ℕ) → ((i : ℕ) → i < k → get_or list i 0 ≡ x → ⊥) → get_or (raised_to steps cost list k l) x 0 ≡ get_or l x 0
  unfolding raised_to
  raised_other zero x out = refl
  raised_other (suc k) x out =
      get_or-set_other (raised_to steps cost list k l) (get_or list k 0) x _ 0 (λ e. out k (omega arith) (sym e))
      ∙ raised_other k x (λ i b. out i (omega arith))

  -- a cell that is in it, however often, has what is left of the route
  raised_one : (k x i : ℕ) → x < length l → i < k → get_or list i 0 ≡ x → get_or (raised_to steps cost list k l) x 0 ≡ steps - get_or cost x 0
  unfolding raised_to
  raised_one zero x i on b e = absurd (omega arith)
  raised_one (suc k) x i on b e = go (ℕ_discrete x (get_or list k 0)) (λ j. raised_one k x i on j e)
    where
      go : Dec (x ≡ get_or list k 0) → (i < k → get_or (raised_to steps cost list k l) x 0 ≡ steps - get_or cost x 0)
          → get_or (raised_to steps cost list (suc k) l) x 0 ≡ steps - get_or cost x 0
      go (yes q) rest = rw q (get_or-set_same (raised_to steps cost list k l) (get_or list k 0) _ 0 (omega (arith, length_raised k, q)))
      go (no d) rest = get_or-set_other (raised_to steps cost list k l) (get_or list k 0) x _ 0 d ∙ rest (below (ℕ_discrete i k))
        where
          below : Dec (i ≡ k) → i < k
          below (yes z) = absurd (d (sym e ∙ ap (λ (m : ℕ). get_or list m 0) z))
          below (no z) = omega arith

-- along the whole list
pub raise_end : {steps : ℕ} {cost list : List ℕ} {k : ℕ} {l₀ l : List ℕ} {n : ℕ} {mark : List ℕ} {count : ℕ}
    → Raised steps cost list k l₀ l → Listed n mark count list → k ≡ count → n ≤ length l₀ → l ≡ filled n (lesson steps l₀ mark cost) l₀
raise_end {steps} {cost} {list} {k} {l₀} {l} {n} {mark} {count} r a e room =
    r.is ∙ ap (λ (m : ℕ). raised_to steps cost list m l₀) e ∙ ext_get_or 0 _ _ (length_raised steps cost list l₀ count ∙ sym (length_filled n _ l₀))
    (λ x b. at x (dec_lt x n))
  where
    on : (x : ℕ) → x < n → Dec (get_or mark x 0 ≡ 2) → get_or (raised_to steps cost list count l₀) x 0 ≡ lesson steps l₀ mark cost x
    on x i (yes m) =
        let p = a.each_one x i m in
        raised_one steps cost list l₀ count x p.index (omega arith) (omega arith) p.named ∙ sym (lesson_yes steps l₀ mark cost x m)
    on x i (no m) =
        raised_other steps cost list l₀ count x (λ j b q. m (ap (λ (y : ℕ). get_or mark y 0) (sym q) ∙ a.marked j b))
        ∙ sym (lesson_no steps l₀ mark cost x m)

    at : (x : ℕ) → Dec (x < n) → get_or (raised_to steps cost list count l₀) x 0 ≡ get_or (filled n (lesson steps l₀ mark cost) l₀) x 0
    at x (yes i) = on x i (ℕ_discrete (get_or mark x 0) 2) ∙ sym (filled_at n _ l₀ room x i)
    at x (no o) =
        raised_other steps cost list l₀ count x (λ j b q. o (rw q at (a.inside j b))) ∙ sym (filled_above n _ l₀ x 0 (omega arith))

-- a part of a list that is all of it
pub whole : (a k : ℕ) (list : List ℕ) → a ≡ 0 → k ≡ length list → take k (drop a list) ≡ list
whole zero k list z e = take_all k list (omega (arith, e))
whole (suc a) k list z e = absurd (omega (arith, z))

-- along a list that is the whole one, by whatever name
pub raise_whole : {steps : ℕ} {cost part list : List ℕ} {k : ℕ} {l₀ l : List ℕ} {n : ℕ} {mark : List ℕ} {count : ℕ}
    → Raised steps cost part k l₀ l → Listed n mark count list → part ≡ list → k ≡ count → n ≤ length l₀ → l ≡ filled n (lesson steps l₀ mark cost) l₀
raise_whole {part = part} {list = list} r a p e room = raise_end r (rw (sym p) at a) e room
