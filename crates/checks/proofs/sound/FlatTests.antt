-- The flat tests with no Bool: what they say at each place of the buffers, both ways.
-- Assumes nothing.
use mathlib.Core.Path.{◌≡◌, ap}
use mathlib.Core.Logic.{◌≢◌}
use mathlib.Core.Bool.{Bool, true, not, ◌&&◌, ◌||◌}
use mathlib.Core.List.{List}
use Prim.Native.Nat.{ℕ, ◌+◌, ◌-◌, ◌≤◌, ◌<◌}
use native.Mathlib.Omega.{arith}
use borrow.Author.Tests.{ltb-false, leb-true, eqb-true, eqb-false, eq-eqb, ne_eqb, le-ltb, le-leb}
use lib.Dec.{ltb, leb, eqb}
use lib.ListN.{get_or}
use Rattle.model.specs.Lists.{every}
use Rattle.model.specs.Plot.{gap}
use Rattle.model.proofs.Lists.Bools.{and_left, and_right, and_both, or_right, make_or, use_test, make_test, not_eqb}
use Rattle.model.proofs.Lists.Filled.{every_at, all_every}
use Rattle.checks.specs.Flat.{cell_test, cell_at, small_at, near_test, near_at, lead_test, lead_at, pairs, edge_test, edge_at, alone, flat}

differing : (a b : ℕ) → a ≢ b → not (eqb a b) ≡ true
differing a b f = ap not (ne_eqb a b f)

-- A cell ----------------------------------------------------------------------------------------------------------------------

pub record Own (g k : ℕ) : Type 0 where
  pub low : g ≤ 1
  pub few : k ≤ 4
  pub one : k ≢ 0 → g ≡ 0

own_read : (g k : ℕ) → cell_test g k ≡ true → Own g k
unfolding cell_test
own_read g k t =
    let u = and_right (leb g 1) _ t in
    record {
      low = leb-true g 1 (and_left (leb g 1) _ t);
      few = leb-true k 4 (and_left (leb k 4) _ u);
      one = λ f. eqb-true g 0 (or_right (eqb k 0) _ (and_right (leb k 4) _ u) (ne_eqb k 0 f));
    }

own_write : (g k : ℕ) → Own g k → cell_test g k ≡ true
unfolding cell_test
own_write g k o =
    and_both _ _ (le-leb g 1 o.low)
    (and_both _ _ (le-leb k 4 o.few) (make_or (eqb k 0) (eqb g 0) (λ a. eq-eqb g 0 (o.one (eqb-false k 0 a)))))

-- A pair ----------------------------------------------------------------------------------------------------------------------

pub record Pair (ga gb e la lb ka kb to from : ℕ) : Type 0 where
  pub near : ga ≡ 0 → gb ≡ 0 → e ≡ 0 → gap la lb ≤ 1
  pub onward : ka ≡ to → (gb ≡ 0) × (e ≡ 0)
  pub back : kb ≡ from → (ga ≡ 0) × (e ≡ 0)

abbrev on_test : (k d g e : ℕ) → Bool
on_test k d g e = not (eqb k d) || (eqb g 0 && eqb e 0)

near_read : (ga gb e la lb : ℕ) → near_test ga gb e la lb ≡ true → ga ≡ 0 → gb ≡ 0 → e ≡ 0 → gap la lb ≤ 1
unfolding near_test
near_read ga gb e la lb t a b c =
    leb-true (gap la lb) 1
    (or_right (ltb 0 e) _ (or_right (ltb 0 gb) _ (or_right (ltb 0 ga) _ t (le-ltb 0 ga (omega arith))) (le-ltb 0 gb (omega arith)))
    (le-ltb 0 e (omega arith)))

near_write : (ga gb e la lb : ℕ) → (ga ≡ 0 → gb ≡ 0 → e ≡ 0 → gap la lb ≤ 1) → near_test ga gb e la lb ≡ true
unfolding near_test
near_write ga gb e la lb f =
    make_or (ltb 0 ga) _ (λ a. make_or (ltb 0 gb) _ (λ b. make_or (ltb 0 e) _ (λ c.
    le-leb (gap la lb) 1 (f (omega (arith, ltb-false 0 ga a)) (omega (arith, ltb-false 0 gb b)) (omega (arith, ltb-false 0 e c))))))

on_read : (k d g e : ℕ) → on_test k d g e ≡ true → k ≡ d → (g ≡ 0) × (e ≡ 0)
on_read k d g e t q =
    let u = use_test (eqb k d) _ t (eq-eqb k d q) in
    (eqb-true g 0 (and_left (eqb g 0) _ u), eqb-true e 0 (and_right (eqb g 0) _ u))

on_write : (k d g e : ℕ) → (k ≡ d → (g ≡ 0) × (e ≡ 0)) → on_test k d g e ≡ true
on_write k d g e f =
    make_test (eqb k d) _ (λ a. let q = f (eqb-true k d a) in and_both _ _ (eq-eqb g 0 q.0) (eq-eqb e 0 q.1))

pair_read : (ga gb e la lb ka kb to from : ℕ) → near_test ga gb e la lb ≡ true → lead_test ga gb e ka kb to from ≡ true
    → Pair ga gb e la lb ka kb to from
unfolding lead_test
pair_read ga gb e la lb ka kb to from t u = record {
  near = near_read ga gb e la lb t;
  onward = on_read ka to gb e (and_left (on_test ka to gb e) _ u);
  back = on_read kb from ga e (and_right (on_test ka to gb e) _ u);
}

lead_write : (ga gb e la lb ka kb to from : ℕ) → Pair ga gb e la lb ka kb to from → lead_test ga gb e ka kb to from ≡ true
unfolding lead_test
lead_write ga gb e la lb ka kb to from p = and_both _ _ (on_write ka to gb e p.onward) (on_write kb from ga e p.back)

-- All -------------------------------------------------------------------------------------------------------------------------

-- cells i and y, one to the right of the other or below it
abbrev pub PairAt : (g l k : List ℕ) (e i y to from : ℕ) → Type 0
PairAt g l k e i y to from = Pair (get_or g i 0) (get_or g y 0) e (get_or l i 0) (get_or l y 0) (get_or k i 0) (get_or k y 0) to from

-- n pairs
module _ (step to from n : ℕ) (g l k e : List ℕ) where
  pairs_read : pairs step to from n g l k e ≡ true → (i : ℕ) → i < n → PairAt g l k (get_or e i 0) i (i + step) to from
  unfolding pairs
  pairs_read t i m =
      pair_read _ _ _ _ _ _ _ to from
      (every_at n (near_at step g l e) (and_left (every n (near_at step g l e)) _ t) i m)
      (every_at n (lead_at step to from g k e) (and_right (every n (near_at step g l e)) _ t) i m)

  pairs_write : ((i : ℕ) → i < n → PairAt g l k (get_or e i 0) i (i + step) to from) → pairs step to from n g l k e ≡ true
  unfolding pairs
  pairs_write f =
      and_both _ _
      (all_every n (near_at step g l e) (λ i m. near_write _ _ _ _ _ (f i m).near))
      (all_every n (lead_at step to from g k e) (λ i m. lead_write _ _ _ _ _ _ _ to from (f i m)))

pub record Facts (w n goal cell : ℕ) (g l k e b : List ℕ) : Type 0 where
  pub own : (i : ℕ) → i < n → Own (get_or g i 0) (get_or k i 0)
  pub small : (i : ℕ) → i < n → get_or l i 0 ≤ n - 1
  pub right : (i : ℕ) → i < n - 1 → PairAt g l k (get_or e i 0) i (i + 1) 1 3
  pub below : (i : ℕ) → i < n - w → PairAt g l k (get_or b i 0) i (i + w) 2 4
  pub first : (i : ℕ) → i < w → get_or k i 0 ≢ 4
  pub last : (i : ℕ) → i < w → get_or k (n - w + i) 0 ≢ 2
  pub start : get_or k 0 0 ≢ 3
  pub stop : get_or k (n - 1) 0 ≢ 1
  pub cart : get_or g cell 0 ≡ 0
  pub home : get_or l goal 0 ≡ 0
  pub rest : get_or k goal 0 ≡ 0

module _ (w n goal cell : ℕ) (g l k e b : List ℕ) where
  abbrev own_t : Bool
  own_t = every n (cell_at g k) && every n (small_at (n - 1) l)

  abbrev edges_t : Bool
  edges_t = every w (edge_at (n - w) k) && (not (eqb (get_or k 0 0) 3) && not (eqb (get_or k (n - 1) 0) 1))

  abbrev alone_t : Bool
  alone_t = alone w n goal cell g l k

  abbrev right_t : Bool
  right_t = pairs 1 1 3 (n - 1) g l k e

  pub flat_read : flat w n goal cell g l k e b ≡ true → Facts w n goal cell g l k e b
  unfolding flat alone edge_test
  flat_read t =
      let a = and_left alone_t _ t in
      let pairs = and_right alone_t _ t in
      let own = and_left own_t _ a in
      let rest = and_right own_t _ a in
      let edges = and_left edges_t _ rest in
      let here = and_right edges_t _ rest in
      let edge = every_at w (edge_at (n - w) k) (and_left (every w (edge_at (n - w) k)) _ edges) in
      let corner = and_right (every w (edge_at (n - w) k)) _ edges in
      let zeros = and_right (eqb (get_or g cell 0) 0) _ here in
      record {
        own = λ i m. own_read _ _ (every_at n (cell_at g k) (and_left (every n (cell_at g k)) _ own) i m);
        small = λ i m. leb-true _ _ (every_at n (small_at (n - 1) l) (and_right (every n (cell_at g k)) _ own) i m);
        right = pairs_read 1 1 3 (n - 1) g l k e (and_left right_t _ pairs);
        below = pairs_read w 2 4 (n - w) g l k b (and_right right_t _ pairs);
        first = λ i m. not_eqb (get_or k i 0) 4 (and_left (not (eqb (get_or k i 0) 4)) _ (edge i m));
        last = λ i m. not_eqb (get_or k (n - w + i) 0) 2 (and_right (not (eqb (get_or k i 0) 4)) _ (edge i m));
        start = not_eqb (get_or k 0 0) 3 (and_left (not (eqb (get_or k 0 0) 3)) _ corner);
        stop = not_eqb (get_or k (n - 1) 0) 1 (and_right (not (eqb (get_or k 0 0) 3)) _ corner);
        cart = eqb-true _ _ (and_left (eqb (get_or g cell 0) 0) _ here);
        home = eqb-true _ _ (and_left (eqb (get_or l goal 0) 0) _ zeros);
        rest = eqb-true _ _ (and_right (eqb (get_or l goal 0) 0) _ zeros);
      }

  pub flat_write : Facts w n goal cell g l k e b → flat w n goal cell g l k e b ≡ true
  unfolding flat alone edge_test
  flat_write f =
      and_both _ _
      (and_both _ _
      (and_both _ _
      (all_every n (cell_at g k) (λ i m. own_write (get_or g i 0) (get_or k i 0) (f.own i m)))
      (all_every n (small_at (n - 1) l) (λ i m. le-leb (get_or l i 0) (n - 1) (f.small i m))))
      (and_both _ _
      (and_both _ _
      (all_every w (edge_at (n - w) k)
      (λ i m. and_both _ _ (differing (get_or k i 0) 4 (f.first i m)) (differing (get_or k (n - w + i) 0) 2 (f.last i m))))
      (and_both _ _ (differing (get_or k 0 0) 3 f.start) (differing (get_or k (n - 1) 0) 1 f.stop)))
      (and_both _ _ (eq-eqb (get_or g cell 0) 0 f.cart)
      (and_both _ _ (eq-eqb (get_or l goal 0) 0 f.home) (eq-eqb (get_or k goal 0) 0 f.rest)))))
      (and_both _ _ (pairs_write 1 1 3 (n - 1) g l k e f.right) (pairs_write w 2 4 (n - w) g l k b f.below))

  -- the results of the passes together
  pub flat_is : (a c d : Bool) → a ≡ alone_t → c ≡ right_t → d ≡ pairs w 2 4 (n - w) g l k b → (a && (c && d)) ≡ flat w n goal cell g l k e b
  unfolding flat
  flat_is a c d p q r = rw (p, q, r)
