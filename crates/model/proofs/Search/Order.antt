-- The order in which waiting cells are taken is a strict total order, and the cell that a search takes is its first.
-- Assumes nothing.
use mathlib.Core.Path.{◌≡◌, refl, sym, ◌∙◌}
use mathlib.Core.Logic.{◌≢◌}
use mathlib.Core.Bool.{Bool, true, false, cond, ◌&&◌, ◌||◌, false≢true}
use mathlib.Core.List.{List}
use Prim.Native.Nat.{ℕ, zero, suc, ◌≤◌, ◌<◌}
use native.Mathlib.Decide.{ℕ_discrete}
use native.Mathlib.Omega.{arith}
use borrow.Author.Tests.{ltb-true, ltb-false, eqb-true, eqb-false, lt-ltb, le-ltb, eq-eqb}
use lib.Dec.{ltb, eqb}
use lib.ListN.{get_or}
use Rattle.model.specs.Lent.{Scratch}
use Rattle.model.specs.Search.{total, smaller_first, earlier, sooner, best}
use Rattle.model.proofs.Lists.Filled.{below_suc}

-- One rule, and what the next rule says among equals ------------------------------------------------------------------------------

-- smaller_first, with no Bool
pub data SmallerFirst (x y : ℕ) (next : Bool) : Type 0 where
  less : x < y → SmallerFirst x y next
  equal : x ≡ y → next ≡ true → SmallerFirst x y next

pub first_is : (x y : ℕ) (next : Bool) → smaller_first x y next ≡ true → SmallerFirst x y next
unfolding smaller_first
first_is x y next = go _ _ refl refl
  where
    go : (a b : Bool) → ltb x y ≡ a → eqb x y ≡ b → (a || (b && next)) ≡ true → SmallerFirst x y next
    go true b e f q = less (ltb-true x y e)
    go false true e f q = equal (eqb-true x y f) q
    go false false e f q = absurd (false≢true q)

is_first : (x y : ℕ) (next : Bool) → SmallerFirst x y next → smaller_first x y next ≡ true
unfolding smaller_first
is_first x y next (less l) = rw (lt-ltb x y l)
is_first x y next (equal e n) = rw (le-ltb x y (omega arith), eq-eqb x y e, n)

-- no cell comes before itself
first_self : (x : ℕ) (next : Bool) → smaller_first x x next ≡ next
unfolding smaller_first
first_self x next = rw (le-ltb x x (omega arith), eq-eqb x x refl)

-- the order of x and y, followed by that of u and v, is that of p and q
record Follows (x y u v p q : ℕ) : Type 0 where
  less_then : x < y → u ≤ v → p < q
  then_less : x ≤ y → u < v → p < q
  equals : x ≡ y → u ≡ v → p ≡ q

first_trans : (x y u v p q : ℕ) (a b c : Bool) → Follows x y u v p q → (a ≡ true → b ≡ true → c ≡ true)
    → smaller_first x y a ≡ true → smaller_first u v b ≡ true → smaller_first p q c ≡ true
first_trans x y u v p q a b c t on e f = is_first p q c (go (first_is x y a e) (first_is u v b f))
  where
    go : SmallerFirst x y a → SmallerFirst u v b → SmallerFirst p q c
    go (less i) (less j) = less (t.less_then i (omega arith))
    go (less i) (equal j _) = less (t.less_then i (omega arith))
    go (equal i _) (less j) = less (t.then_less (omega arith) j)
    go (equal i n) (equal j o) = equal (t.equals i j) (on n o)

-- of two numbers one comes first, or they are equal and the next rule says
first_total : (x y : ℕ) (a b : Bool) → (x ≡ y → a ≡ false → b ≡ true) → smaller_first x y a ≡ false → smaller_first y x b ≡ true
unfolding smaller_first
first_total x y a b on = go _ _ refl refl
  where
    go : (t u : Bool) → ltb x y ≡ t → eqb x y ≡ u → (t || (u && a)) ≡ false → smaller_first y x b ≡ true
    go true u e f q = absurd (false≢true (sym q))
    go false true e f q = is_first y x b (equal (sym (eqb-true x y f)) (on (eqb-true x y f) q))
    go false false e f q = is_first y x b (less (omega (arith, ltb-false x y e, eqb-false x y f)))

-- The order of document 01 --------------------------------------------------------------------------------------------------------

module _ (learned : List ℕ) (s : Scratch) where
  pub earlier_not_itself : (a : ℕ) → earlier learned s a a ≡ false
  unfolding earlier
  earlier_not_itself a = first_self _ _ ∙ (first_self _ _ ∙ first_self _ _)

  pub earlier_trans : (a b c : ℕ) → earlier learned s a b ≡ true → earlier learned s b c ≡ true → earlier learned s a c ≡ true
  unfolding earlier
  earlier_trans a b c =
      first_trans _ _ _ _ _ _ _ _ _ (omega arith)
      (first_trans _ _ _ _ _ _ _ _ _ (omega arith) (first_trans _ _ _ _ _ _ _ _ _ (omega arith) (λ e _. absurd (false≢true e))))

  pub earlier_total : (a b : ℕ) → a ≢ b → earlier learned s a b ≡ false → earlier learned s b a ≡ true
  unfolding earlier
  earlier_total a b d =
      first_total _ _ _ _ (λ _. first_total _ _ _ _ (λ _. first_total _ _ _ _ (λ e _. absurd (omega arith))))

  -- what is taken before another has no larger cost + learned
  pub earlier_le : (a b : ℕ) → earlier learned s a b ≡ true → total learned s.cost a ≤ total learned s.cost b
  unfolding earlier
  earlier_le a b e = go (first_is _ _ _ e)
    where
      go : {next : Bool} → SmallerFirst (total learned s.cost a) (total learned s.cost b) next → total learned s.cost a ≤ total learned s.cost b
      go (less l) = omega arith
      go (equal q _) = omega arith

-- The cell taken ------------------------------------------------------------------------------------------------------------------

-- b waits, and is taken before every other waiting cell below k
pub record Foremost (learned : List ℕ) (s : Scratch) (k b : ℕ) : Type 0 where
  pub below : b < k
  pub waiting : get_or s.mark b 0 ≡ 1
  pub before : (y : ℕ) → y < k → get_or s.mark y 0 ≡ 1 → y ≢ b → earlier learned s b y ≡ true

pub data Best (n : ℕ) (learned : List ℕ) (s : Scratch) (k b : ℕ) : Type 0 where
  none : b ≡ n → ((y : ℕ) → y < k → get_or s.mark y 0 ≢ 1) → Best n learned s k b
  some : Foremost learned s k b → Best n learned s k b

module _ (n : ℕ) (learned : List ℕ) (s : Scratch) where
  sooner_is : (k b : ℕ) → k < n → Best n learned s k b → Best n learned s (suc k) (sooner n learned s k b)
  unfolding sooner
  sooner_is k b l t = go _ _ _ refl refl refl t
    where
      -- the cells below k + 1 are those below k, and k
      upto : (P : ℕ → Type 0) → ((y : ℕ) → y < k → P y) → P k → (y : ℕ) → y < suc k → P y
      upto = below_suc

      go : (m e f : Bool) → eqb (get_or s.mark k 0) 1 ≡ m → eqb b n ≡ e → earlier learned s k b ≡ f → Best n learned s k b
          → Best n learned s (suc k) (cond (m && (e || f)) k b)
      go false e f p q r (none z c) = none z (upto (λ y. get_or s.mark y 0 ≢ 1) c (eqb-false _ _ p))
      go false e f p q r (some c) = some (record {
        below = omega (arith, c.below);
        waiting = c.waiting;
        before = upto (λ y. get_or s.mark y 0 ≡ 1 → y ≢ b → earlier learned s b y ≡ true) c.before (λ w. absurd (eqb-false _ _ p w));
      })
      go true true f p q r (none z c) = some (record {
        below = omega arith;
        waiting = eqb-true _ _ p;
        before = upto (λ y. get_or s.mark y 0 ≡ 1 → y ≢ k → earlier learned s k y ≡ true) (λ y i w. absurd (c y i w)) (λ _ d. absurd (d refl));
      })
      go true true f p q r (some c) = absurd (omega (arith, eqb-true b n q, c.below))
      go true false f p q r (none z c) = absurd (eqb-false b n q z)
      go true false true p q r (some c) = some (record {
        below = omega arith;
        waiting = eqb-true _ _ p;
        before =
            upto (λ y. get_or s.mark y 0 ≡ 1 → y ≢ k → earlier learned s k y ≡ true) (λ y i w _. past y i w (ℕ_discrete y b))
            (λ _ d. absurd (d refl));
      })
        where
          past : (y : ℕ) → y < k → get_or s.mark y 0 ≡ 1 → Dec (y ≡ b) → earlier learned s k y ≡ true
          past y i w (yes e) = rw e r
          past y i w (no d) = earlier_trans learned s k b y r (c.before y i w d)
      go true false false p q r (some c) = some (record {
        below = omega (arith, c.below);
        waiting = c.waiting;
        before = upto (λ y. get_or s.mark y 0 ≡ 1 → y ≢ b → earlier learned s b y ≡ true) c.before (λ _ d. earlier_total learned s k b d r);
      })

  -- THE CELL TAKEN is the waiting cell that comes before every other waiting cell, or n where none waits.
  pub best_is : (k : ℕ) → k ≤ n → Best n learned s k (best n learned s k)
  unfolding best
  best_is zero l = none refl (λ y i. absurd (omega arith))
  best_is (suc k) l = sooner_is k (best n learned s k) l (best_is k (omega arith))

  -- there is one such cell, so whoever finds it has found the one that is taken
  pub foremost_is_best : (x : ℕ) → Foremost learned s n x → best n learned s n ≡ x
  foremost_is_best x t = go (best_is n (omega arith))
    where
      go : {b : ℕ} → Best n learned s n b → b ≡ x
      go (none e none_waits) = absurd (none_waits x t.below t.waiting)
      go {b} (some u) = same (ℕ_discrete b x)
        where
          same : Dec (b ≡ x) → b ≡ x
          same (yes e) = e
          same (no d) =
              let twice =
              earlier_trans learned s b x b (u.before x t.below t.waiting (λ e. d (sym e))) (t.before b u.below u.waiting d) in
              absurd (false≢true (sym (earlier_not_itself learned s b) ∙ twice))

  pub none_is_best : ((y : ℕ) → y < n → get_or s.mark y 0 ≢ 1) → best n learned s n ≡ n
  none_is_best none_waits = go (best_is n (omega arith))
    where
      go : {b : ℕ} → Best n learned s n b → b ≡ n
      go (none e _) = e
      go {b} (some u) = absurd (none_waits b u.below u.waiting)
