-- Expanding a picked cell keeps the search's invariant.
-- Assumes nothing.
use mathlib.Core.Path.{◌≡◌, sym, ap}
use mathlib.Core.Logic.{◌≢◌}
use Prim.Native.Nat.{ℕ, ◌+◌, ◌≤◌, ◌<◌}
use native.Mathlib.Decide.{ℕ_discrete}
use native.Mathlib.Omega.{arith}
use Rattle.walks.specs.Walk.{Walk, Fewest, Consistent}
use Rattle.walks.specs.Search.{State, Reached, Search, Pick, Relaxed, lowered, kept, Expansion}
use Rattle.walks.proofs.Walks.{walk_at, fewest_at, snoc}
use Rattle.walks.proofs.Searches.{pick_fewest, expanded_stays}

-- One more cell, x, holds v, and the others that hold it are the same.
pub record OneMore (f g : ℕ → ℕ) (v x : ℕ) : Type 0 where
  pub before : f x ≢ v
  pub after : g x ≡ v
  pub to : (i : ℕ) → i ≢ x → f i ≡ v → g i ≡ v
  pub back : (i : ℕ) → i ≢ x → g i ≡ v → f i ≡ v

-- what an expansion of x makes of cell y
data Change (Adj : ℕ → ℕ → Type 0) (Step : ℕ → ℕ → ℕ → Type 0) (x : ℕ) (S S' : State) (y : ℕ) : Type 0 where
  self : y ≡ x → S.mark y ≡ 1 → S'.mark y ≡ 2 → S'.cost y ≡ S.cost y → S'.trail y ≡ S.trail y → Change Adj Step x S S' y
  low : Adj x y → S.mark y ≢ 2 → S.cost x + 1 < S.cost y → S'.mark y ≡ 1 → S'.cost y ≡ S.cost x + 1 → Step (S'.trail y) x y
      → Change Adj Step x S S' y
  keep : (Adj x y → (1 ≤ S.mark y) × (S.cost y ≤ S.cost x + 1)) → S'.mark y ≡ S.mark y → S'.cost y ≡ S.cost y → S'.trail y ≡ S.trail y
      → Change Adj Step x S S' y

module _ {Adj : ℕ → ℕ → Type 0} {Step : ℕ → ℕ → ℕ → Type 0} {h : ℕ → ℕ} {Halt : ℕ → Type 0} {s top : ℕ} {S S' : State} {x : ℕ}
    (I : Search Adj Step h Halt s top S)
    (c : Consistent Adj h) (p : Pick h S x) (fits : S.cost x + 1 < top) (goes : ¬ Halt x) (E : Expansion Adj Step x S S') where
  x_seen : 1 ≤ S.mark x
  x_seen = omega (arith, p.waits)

  change : (y : ℕ) → Change Adj Step x S S' y
  change y = go (ℕ_discrete y x)
    where
      other : Relaxed (Adj x) Step x S S' y → Change Adj Step x S S' y
      other (lowered a l m k q) = low a (λ e. absurd (omega (arith, expanded_stays I x_seen e a))) l m k q
      other (kept near m k q) = keep (λ a. (seen a, near a)) m k q
        where
          seen : Adj x y → 1 ≤ S.mark y
          seen a = unless (ℕ_discrete (S.mark y) 0)
            where
              unless : Dec (S.mark y ≡ 0) → 1 ≤ S.mark y
              unless (yes e) = absurd (omega (arith, near a, I.unseen x y a e))
              unless (no n) = omega arith

      go : Dec (y ≡ x) → Change Adj Step x S S' y
      go (yes e) = self e (rw e p.waits) (rw e E.marked) (rw e E.same_cost) (rw e E.same_trail)
      go (no n) = other (E.others y n)

  marks' : {y : ℕ} → Change Adj Step x S S' y → S'.mark y ≤ 2
  marks' (self _ _ m _ _) = omega arith
  marks' (low _ _ _ m _ _) = omega arith
  marks' {y} (keep _ m _ _) = omega (arith, I.marks y)

  unseen' : {z y : ℕ} → Change Adj Step x S S' y → Adj z y → S'.mark y ≡ 0 → S'.cost y ≡ top
  unseen' (self _ _ m _ _) a e = omega arith
  unseen' (low _ _ _ m _ _) a e = omega arith
  unseen' {z} {y} (keep _ m k _) a e = omega (arith, I.unseen z y a (omega arith))

  -- a seen cell stays seen
  seen' : {y : ℕ} → Change Adj Step x S S' y → 1 ≤ S.mark y → 1 ≤ S'.mark y
  seen' (self _ _ m _ _) l = omega arith
  seen' (low _ _ _ m _ _) l = omega arith
  seen' (keep _ m _ _) l = omega arith

  -- no cost rises
  cost' : {y : ℕ} → Change Adj Step x S S' y → S'.cost y ≤ S.cost y
  cost' (self _ _ _ k _) = omega arith
  cost' (low _ _ l _ k _) = omega arith
  cost' (keep _ _ k _) = omega arith

  -- an expanded cell stays as it is
  expanded' : {y : ℕ} → Change Adj Step x S S' y → S.mark y ≡ 2 → (S'.mark y ≡ 2) × (S'.cost y ≡ S.cost y)
  expanded' (self _ w _ _ _) e = absurd (omega arith)
  expanded' (low _ n _ _ _ _) e = absurd (n e)
  expanded' (keep _ m k _) e = (omega arith, k)

  walks' : {y : ℕ} → Change Adj Step x S S' y → 1 ≤ S'.mark y → Walk Adj s y (S'.cost y)
  walks' {y} (self _ w _ k _) l = walk_at (sym k) (I.walks y (omega arith))
  walks' {y} (low a _ _ _ k _) l = walk_at (sym k) (snoc (I.walks x x_seen) a)
  walks' {y} (keep _ m k _) l = walk_at (sym k) (I.walks y (omega arith))

  -- a cell whose cost and trail stay was reached as before
  still : {y : ℕ} → S'.cost y ≡ S.cost y → S'.trail y ≡ S.trail y → Reached Adj Step S y → Reached Adj Step S' y
  still k q r =
      let e = expanded' (change r.prev) r.expanded in
      record { prev = r.prev; expanded = e.0; allowed = r.allowed; by = rw q r.by; dearer = omega (arith, r.dearer) }

  reached' : {y : ℕ} → Change Adj Step x S S' y → 1 ≤ S'.mark y → y ≢ s → Reached Adj Step S' y
  reached' {y} (self _ w _ k q) l n = still k q (I.reached y (omega arith) n)
  reached' (low a _ _ _ k q) l n =
      record { prev = x; expanded = E.marked; allowed = a; by = q; dearer = omega (arith, E.same_cost) }
  reached' {y} (keep _ m k q) l n = still k q (I.reached y (omega arith) n)

  -- the successors of x
  near_x : {y : ℕ} → Change Adj Step x S S' y → Adj x y → (1 ≤ S'.mark y) × (S'.cost y ≤ S.cost x + 1)
  near_x (self e _ m k _) a = (omega arith, omega (arith, ap S.cost e))
  near_x (low _ _ _ m k _) a = (omega arith, omega arith)
  near_x (keep near m k _) a = let r = near a in (omega arith, omega arith)

  relaxed' : {z y : ℕ} → Change Adj Step x S S' z → S'.mark z ≡ 2 → Adj z y → (1 ≤ S'.mark y) × (S'.cost y ≤ S'.cost z + 1)
  relaxed' {z} {y} (self e _ _ k _) _ a =
      let r = near_x (change y) (rw e at a) in
      (r.0, omega (arith, ap S.cost e))
  relaxed' (low _ _ _ m _ _) e a = absurd (omega arith)
  relaxed' {z} {y} (keep _ m k _) e a =
      let r = I.relaxed z y (omega arith) a in
      (seen' (change y) r.0, omega (arith, cost' (change y)))

  fewest' : {z : ℕ} → Change Adj Step x S S' z → S'.mark z ≡ 2 → Fewest Adj s z (S'.cost z)
  fewest' (self e _ _ k _) _ = fewest_at (sym k) (rw e (pick_fewest I c p))
  fewest' (low _ _ _ m _ _) e = absurd (omega arith)
  fewest' {z} (keep _ m k _) e = fewest_at (sym k) (I.fewest z (omega arith))

  -- cost + h of x lies between the expanded cells' and the waiting ones'
  below_x : {z : ℕ} → Change Adj Step x S S' z → S'.mark z ≡ 2 → S'.cost z + h z ≤ S.cost x + h x
  below_x (self e _ _ k _) _ = omega (arith, ap S.cost e, ap h e)
  below_x (low _ _ _ m _ _) e = absurd (omega arith)
  below_x {z} (keep _ m k _) e = omega (arith, I.ordered z x (omega arith) p.waits)

  above_x : {y : ℕ} → Change Adj Step x S S' y → S'.mark y ≡ 1 → S.cost x + h x ≤ S'.cost y + h y
  above_x (self _ _ m _ _) e = absurd (omega arith)
  above_x {y} (low a _ _ _ k _) e = omega (arith, c x y a)
  above_x {y} (keep _ m k _) e = omega (arith, p.first y (omega arith))

  going' : {z : ℕ} → Change Adj Step x S S' z → S'.mark z ≡ 2 → ¬ Halt z
  going' (self e _ _ _ _) _ = rw e goes
  going' (low _ _ _ m _ _) e = absurd (omega arith)
  going' {z} (keep _ m _ _) e = I.going z (omega arith)

  old_expanded : {y : ℕ} → Change Adj Step x S S' y → y ≢ x → S'.mark y ≡ 2 → S.mark y ≡ 2
  old_expanded (self e _ _ _ _) n _ = absurd (n e)
  old_expanded (low _ _ _ m _ _) n e = absurd (omega arith)
  old_expanded (keep _ m _ _) n e = omega arith

  -- one more cell is expanded
  pub one_more_expanded : OneMore S.mark S'.mark 2 x
  one_more_expanded = record {
    before = omega (arith, p.waits);
    after = E.marked;
    to = λ y _ e. (expanded' (change y) e).0;
    back = λ y n e. old_expanded (change y) n e;
  }

  -- EXPANDING a picked cell at which the search goes on keeps the invariant.
  pub search_goes_on : Search Adj Step h Halt s top S'
  search_goes_on = record {
    marks = λ y. marks' (change y);
    unseen = λ z y. unseen' (change y);
    begun = seen' (change s) I.begun;
    origin = omega (arith, cost' (change s), I.origin);
    walks = λ y. walks' (change y);
    reached = λ y. reached' (change y);
    relaxed = λ z y. relaxed' (change z);
    fewest = λ z. fewest' (change z);
    ordered = λ z y e w. omega (arith, below_x (change z) e, above_x (change y) w);
    going = λ z. going' (change z);
  }
