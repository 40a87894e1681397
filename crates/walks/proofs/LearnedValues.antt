-- Learning after a stop: values never fall, stay consistent, and stay 0 at the goal.
-- Assumes nothing.
use mathlib.Core.Path.{◌≡◌}
use Prim.Native.Nat.{ℕ, ◌+◌, ◌≤◌}
use native.Mathlib.Decide.{ℕ_discrete}
use native.Mathlib.Omega.{arith}
use Rattle.walks.specs.Walk.{Consistent}
use Rattle.walks.specs.Search.{State, Search, Pick, Learns}

module _ {Adj : ℕ → ℕ → Type 0} {Step : ℕ → ℕ → ℕ → Type 0} {h h' : ℕ → ℕ} {Halt : ℕ → Type 0} {s top t : ℕ} {S : State}
    (I : Search Adj Step h Halt s top S)
    (p : Pick h S t) (L : Learns S h h' t) where
  -- the length found is no less than any expanded cell's cost + h
  pub length_bounds : {x : ℕ} → S.mark x ≡ 2 → S.cost x + h x ≤ S.cost t + h t
  length_bounds {x} e = I.ordered x t e p.waits

  -- an expanded cell's new value and its cost make the length
  pub total : {x : ℕ} → S.mark x ≡ 2 → h' x + S.cost x ≡ S.cost t + h t
  total {x} e = omega (arith, L.raised x e, length_bounds e)

  pub rises : (x : ℕ) → h x ≤ h' x
  rises x = go (ℕ_discrete (S.mark x) 2)
    where
      go : Dec (S.mark x ≡ 2) → h x ≤ h' x
      go (yes e) = omega (arith, total e, length_bounds e)
      go (no n) = omega (arith, L.held x n)

  pub stays_consistent : Consistent Adj h → Consistent Adj h'
  stays_consistent c x y a = go (ℕ_discrete (S.mark x) 2) (ℕ_discrete (S.mark y) 2)
    where
      go : Dec (S.mark x ≡ 2) → Dec (S.mark y ≡ 2) → h' x ≤ h' y + 1
      go (yes e) (yes f) = omega (arith, total e, total f, (I.relaxed x y e a).1)
      go (yes e) (no n) =
          let r = I.relaxed x y e a in
          omega (arith, total e, L.held y n, p.first y (omega (arith, I.marks y)))
      go (no n) _ = omega (arith, c x y a, L.held x n, rises y)

  pub goal_stays : {goal : ℕ} → Halt goal → h' goal ≡ h goal
  goal_stays {goal} halts = L.held goal (λ e. I.going goal e halts)

  -- the sum at t, which keeps its value
  pub total_at_stop : h' t + S.cost t ≡ S.cost t + h t
  total_at_stop = omega (arith, L.held t (omega (arith, p.waits)))

  -- no new value is above both the old one and the length
  pub learned_bounded : {k : ℕ} → S.cost t + h t ≤ k → (x : ℕ) → h x ≤ k → h' x ≤ k
  learned_bounded {k} l x b = go (ℕ_discrete (S.mark x) 2)
    where
      go : Dec (S.mark x ≡ 2) → h' x ≤ k
      go (yes e) = omega (arith, total e)
      go (no n) = omega (arith, L.held x n)
