-- An expansion in small steps: the cell is marked, then its successors are relaxed one after another.
-- Assumes nothing.
use mathlib.Core.Path.{◌≡◌}
use mathlib.Core.Logic.{◌≢◌, ◌⊎◌, inl, inr}
use Prim.Native.Nat.{ℕ, ◌+◌, ◌≤◌}
use native.Mathlib.Omega.{arith}
use Rattle.walks.specs.Search.{State, Relaxed, lowered, kept, Expansion}

-- relaxing the cells of Near from x leads from S to S'
abbrev pub Relaxes : (ℕ → Type 0) → (ℕ → ℕ → ℕ → Type 0) → ℕ → State → State → Type 0
Relaxes Near Step x S S' = (y : ℕ) → Relaxed Near Step x S S' y

-- one group of cells after another
relax_both : {Near More : ℕ → Type 0} {Step : ℕ → ℕ → ℕ → Type 0} {x y : ℕ} {S S' S'' : State} → S'.cost x ≡ S.cost x → Relaxed Near Step x S S' y
    → Relaxed More Step x S' S'' y → Relaxed (λ z. Near z ⊎ More z) Step x S S'' y
relax_both e (lowered n l m k q) (lowered n' l' m' k' q') = absurd (omega arith)
relax_both e (lowered n l m k q) (kept f m' k' q') = lowered (inl n) l (rw m' m) (rw k' k) (rw q' q)
relax_both e (kept f m k q) (lowered n l m' k' q') = lowered (inr n) (omega arith) m' (omega arith) q'
relax_both {Near} {More} {x = x} {y = y} {S = S} e (kept f m k q) (kept f' m' k' q') = kept near (rw m' m) (rw k' k) (rw q' q)
  where
    near : Near y ⊎ More y → S.cost y ≤ S.cost x + 1
    near (inl n) = f n
    near (inr n) = omega (arith, f' n)

-- the cell from which others are relaxed keeps its cost
same_cost : {Near : ℕ → Type 0} {Step : ℕ → ℕ → ℕ → Type 0} {x : ℕ} {S S' : State} → Relaxed Near Step x S S' x → S'.cost x ≡ S.cost x
same_cost (lowered _ l _ _ _) = absurd (omega arith)
same_cost (kept _ _ k _) = k

pub relax_then : {Near More : ℕ → Type 0} {Step : ℕ → ℕ → ℕ → Type 0} {x : ℕ} {S S' S'' : State} → Relaxes Near Step x S S' → Relaxes More Step x S' S''
    → Relaxes (λ z. Near z ⊎ More z) Step x S S''
relax_then {x} r r' y = relax_both (same_cost (r x)) (r y) (r' y)

-- the group may be described another way
relax_at : {Near Near' : ℕ → Type 0} {Step : ℕ → ℕ → ℕ → Type 0} {x y : ℕ} {S S' : State} → (Near y → Near' y) → (Near' y → Near y)
    → Relaxed Near Step x S S' y → Relaxed Near' Step x S S' y
relax_at to from (lowered n l m k q) = lowered (to n) l m k q
relax_at to from (kept f m k q) = kept (λ n. f (from n)) m k q

pub relax_as : {Near Near' : ℕ → Type 0} {Step : ℕ → ℕ → ℕ → Type 0} {x : ℕ} {S S' : State} → ((y : ℕ) → Near y → Near' y)
    → ((y : ℕ) → Near' y → Near y) → Relaxes Near Step x S S' → Relaxes Near' Step x S S'
relax_as to from r y = relax_at (to y) (from y) (r y)

-- S₁ is S with x marked expanded
pub record Marked (x : ℕ) (S S₁ : State) : Type 0 where
  pub there : S₁.mark x ≡ 2
  pub elsewhere : (y : ℕ) → y ≢ x → S₁.mark y ≡ S.mark y
  pub costs : (y : ℕ) → S₁.cost y ≡ S.cost y
  pub trails : (y : ℕ) → S₁.trail y ≡ S.trail y

-- marking x and then relaxing its successors is an expansion
module _ {Near : ℕ → Type 0} {Step : ℕ → ℕ → ℕ → Type 0} {x : ℕ} {S S₁ S' : State} (m : Marked x S S₁) where
  at_x : Relaxed Near Step x S₁ S' x → (S'.mark x ≡ 2) × (S'.cost x ≡ S.cost x) × (S'.trail x ≡ S.trail x)
  at_x (lowered _ l _ _ _) = absurd (omega arith)
  at_x (kept _ e k q) = (rw e m.there, rw k (m.costs x), rw q (m.trails x))

  other : {y : ℕ} → y ≢ x → Relaxed Near Step x S₁ S' y → Relaxed Near Step x S S' y
  other {y} n (lowered a l e k q) = lowered a (omega (arith, m.costs x, m.costs y)) e (omega (arith, m.costs x)) q
  other {y} n (kept f e k q) =
      kept (λ a. omega (arith, f a, m.costs x, m.costs y)) (rw e (m.elsewhere y n)) (rw k (m.costs y)) (rw q (m.trails y))

pub expansion : {Adj : ℕ → ℕ → Type 0} {Step : ℕ → ℕ → ℕ → Type 0} {x : ℕ} {S S₁ S' : State} → Marked x S S₁ → Relaxes (Adj x) Step x S₁ S'
    → Expansion Adj Step x S S'
expansion {x} m r =
    let t = at_x m (r x) in
    record { marked = t.0; same_cost = t.1; same_trail = t.2; others = λ y n. other m n (r y) }
