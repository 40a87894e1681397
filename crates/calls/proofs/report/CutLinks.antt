-- The links that lead to c, cut in the four directions, are those that a report cuts over all cells.
-- Assumes nothing.
use Prim.Native.Nat.{ℕ, zero, suc, ◌+◌, ◌-◌, ◌≤◌, ◌<◌}
use mathlib.Core.Path.{◌≡◌, refl, sym, ap, ◌∙◌}
use mathlib.Core.Logic.{◌≢◌, ◌⊎◌, inl, inr}
use mathlib.Core.List.{List}
use native.Mathlib.Decide.{ℕ_discrete, dec_lt}
use native.Mathlib.Numerals.{add-one}
use native.Mathlib.Omega.{arith}
use borrow.Author.Tests.{eq-eqb, ne_eqb, lt-ltb, le-ltb}
use lib.ListN.{length, get_or, set, length-set}
use lib.Seq.{get_or-set_same, get_or-set_other, ext_get_or}
use Rattle.model.specs.Plot.{cells, ahead, opposite}
use Rattle.model.specs.Route.{next}
use Rattle.model.specs.Report.{unlinked}
use Rattle.model.proofs.Grid.Geometry.{Stepped, right, down, left, up, none_ahead, ahead_is, stepped_ahead, stepped_back, stepped_low, stepped_high}
use Rattle.model.proofs.Calls.ReportLaws.{cut_own, cut_pointing, uncut, links_long, links_at, links_beyond}
use Rattle.calls.specs.Cuts.{cut_at, cut_to}

-- One cut -------------------------------------------------------------------------------------------------------------------------

module _ (n y d : ℕ) (link : List ℕ) where
  pub cut_off : n ≤ y → cut_at n y d link ≡ link
  unfolding cut_at
  cut_off o = rw (le-ltb y n o)

  pub cut_other : y < n → (get_or link y 0 ≡ d → ⊥) → cut_at n y d link ≡ link
  unfolding cut_at
  cut_other i o = rw (lt-ltb y n i, ne_eqb (get_or link y 0) d o)

  pub cut_one : y < n → get_or link y 0 ≡ d → cut_at n y d link ≡ set link y 0
  unfolding cut_at
  cut_one i e = rw (lt-ltb y n i, eq-eqb (get_or link y 0) d e)

  cut_long : length (cut_at n y d link) ≡ length link
  cut_long = go (dec_lt y n) (ℕ_discrete (get_or link y 0) d)
    where
      go : Dec (y < n) → Dec (get_or link y 0 ≡ d) → length (cut_at n y d link) ≡ length link
      go (no o) _ = ap length (cut_off (omega arith))
      go (yes i) (no o) = ap length (cut_other i o)
      go (yes i) (yes e) = ap length (cut_one i e) ∙ length-set link y 0

  -- the link of x stays, but where x is y and its link is d
  cut_keeps : (x : ℕ) → (x ≡ y → x < n → get_or link x 0 ≡ d → ⊥) → get_or (cut_at n y d link) x 0 ≡ get_or link x 0
  cut_keeps x f = go (dec_lt y n) (ℕ_discrete (get_or link y 0) d) (ℕ_discrete x y)
    where
      go : Dec (y < n) → Dec (get_or link y 0 ≡ d) → Dec (x ≡ y) → get_or (cut_at n y d link) x 0 ≡ get_or link x 0
      go (no o) _ _ = rw (cut_off (omega arith))
      go (yes i) (no o) _ = rw (cut_other i o)
      go (yes i) (yes e) (yes q) = absurd (f q (omega arith) (ap (λ (k : ℕ). get_or link k 0) q ∙ e))
      go (yes i) (yes e) (no o) = rw (cut_one i e) (get_or-set_other link y x 0 0 o)

  -- and there it becomes 0
  cut_hits : n ≤ length link → (x : ℕ) → x ≡ y → x < n → get_or link x 0 ≡ d → get_or (cut_at n y d link) x 0 ≡ 0
  cut_hits r x q i e =
      let own : get_or link y 0 ≡ d = rw q at e in
      rw (cut_one (omega arith) own, q) (get_or-set_same link y 0 0 (omega arith))

  -- so any link stays or becomes 0, and one of 0 stays
  cut_either : n ≤ length link → (x : ℕ) → (get_or (cut_at n y d link) x 0 ≡ get_or link x 0) ⊎ (get_or (cut_at n y d link) x 0 ≡ 0)
  cut_either r x = go (dec_lt y n) (ℕ_discrete (get_or link y 0) d) (ℕ_discrete x y)
    where
      go : Dec (y < n) → Dec (get_or link y 0 ≡ d) → Dec (x ≡ y) → (get_or (cut_at n y d link) x 0 ≡ get_or link x 0) ⊎ (get_or (cut_at n y d link) x 0 ≡ 0)
      go (yes i) (yes e) (yes q) = inr (cut_hits r x q (omega arith) (ap (λ (k : ℕ). get_or link k 0) q ∙ e))
      go (yes i) (yes e) (no o) = inl (cut_keeps x (λ q _ _. o q))
      go (yes i) (no o) _ = inl (rw (cut_other i o))
      go (no o) _ _ = inl (rw (cut_off (omega arith)))

  cut_zero : n ≤ length link → (x : ℕ) → get_or link x 0 ≡ 0 → get_or (cut_at n y d link) x 0 ≡ 0
  cut_zero r x z = go (cut_either r x)
    where
      go : (get_or (cut_at n y d link) x 0 ≡ get_or link x 0) ⊎ (get_or (cut_at n y d link) x 0 ≡ 0) → get_or (cut_at n y d link) x 0 ≡ 0
      go (inl e) = e ∙ z
      go (inr e) = e

-- The directions one after the other ------------------------------------------------------------------------------------------------

cuts_long : (w h c : ℕ) (link : List ℕ) (k : ℕ) → length (cut_to w h c k link) ≡ length link
unfolding cut_to
cuts_long w h c link zero = refl
cuts_long w h c link (suc k) = cut_long (cells w h) (ahead w h c (k + 1)) (opposite (k + 1)) (cut_to w h c k link) ∙ cuts_long w h c link k

opposite_twice : {w h c d y : ℕ} → Stepped w h c d y → opposite (opposite d) ≡ d
opposite_twice (right _) = refl
opposite_twice (down _) = refl
opposite_twice (left _) = refl
opposite_twice (up _) = refl

module _ (w h c : ℕ) (wide : 0 < w) (on : c < cells w h) (link : List ℕ) where
  -- the step from x to c, and the step from c to x, taken back
  step_to : (x d : ℕ) → ahead w h x d ≡ c → Stepped w h x d c
  step_to x d e = rw e at (ahead_is w h x d (rw e on))

  step_back : (x d : ℕ) → ahead w h c d ≡ x → x < cells w h → ahead w h x (opposite d) ≡ c
  step_back x d e i = stepped_ahead (stepped_back wide on (rw e at (ahead_is w h c d (rw e i))))

  -- the link of a cell that does not lead to c stays
  cuts_keep : (x : ℕ) → (x < cells w h → next w h link x ≢ c) → (k : ℕ) → get_or (cut_to w h c k link) x 0 ≡ get_or link x 0
  unfolding cut_to
  cuts_keep x f zero = refl
  cuts_keep x f (suc k) =
      cut_keeps (cells w h) (ahead w h c (k + 1)) (opposite (k + 1)) (cut_to w h c k link) x (back (cuts_keep x f k)) ∙ cuts_keep x f k
    where
      back : get_or (cut_to w h c k link) x 0 ≡ get_or link x 0 → x ≡ ahead w h c (k + 1) → x < cells w h
          → get_or (cut_to w h c k link) x 0 ≡ opposite (k + 1) → ⊥
      back p q i e = f i (ap (ahead w h x) (sym p ∙ e) ∙ step_back x (k + 1) (sym q) i)

  module _ (room : cells w h ≤ length link) (x : ℕ) where
    cuts_either : (k : ℕ) → (get_or (cut_to w h c k link) x 0 ≡ get_or link x 0) ⊎ (get_or (cut_to w h c k link) x 0 ≡ 0)
    unfolding cut_to
    cuts_either zero = inl refl
    cuts_either (suc k) =
        go (cuts_either k)
        (cut_either (cells w h) (ahead w h c (k + 1)) (opposite (k + 1)) (cut_to w h c k link) (omega (arith, cuts_long w h c link k)) x)
      where
        go : (get_or (cut_to w h c k link) x 0 ≡ get_or link x 0) ⊎ (get_or (cut_to w h c k link) x 0 ≡ 0)
            → (get_or (cut_to w h c (suc k) link) x 0 ≡ get_or (cut_to w h c k link) x 0) ⊎ (get_or (cut_to w h c (suc k) link) x 0 ≡ 0)
            → (get_or (cut_to w h c (suc k) link) x 0 ≡ get_or link x 0) ⊎ (get_or (cut_to w h c (suc k) link) x 0 ≡ 0)
        go _ (inr e) = inr e
        go (inl p) (inl e) = inl (e ∙ p)
        go (inr p) (inl e) = inr (e ∙ p)

    -- the link of a cell that leads to c is 0 from the direction on that goes from c to that cell
    module _ (i : x < cells w h) (leads : next w h link x ≡ c) where
      -- the step from c to x
      step_from : Stepped w h c (opposite (get_or link x 0)) x
      step_from = stepped_back wide i (step_to x (get_or link x 0) leads)

      cuts_to : (k : ℕ) → opposite (get_or link x 0) ≤ k → get_or (cut_to w h c k link) x 0 ≡ 0
      unfolding cut_to
      cuts_to zero l = absurd (omega (arith, stepped_low step_from))
      cuts_to (suc k) l = go (ℕ_discrete (opposite (get_or link x 0)) (k + 1)) (cuts_either k) (cuts_to k)
        where
          long : cells w h ≤ length (cut_to w h c k link)
          long = rw (cuts_long w h c link k) room

          back : opposite (get_or link x 0) ≡ k + 1 → opposite (k + 1) ≡ get_or link x 0
          back q = ap opposite (sym q) ∙ opposite_twice (step_to x (get_or link x 0) leads)

          zero_stays : get_or (cut_to w h c k link) x 0 ≡ 0 → get_or (cut_to w h c (suc k) link) x 0 ≡ 0
          zero_stays z = cut_zero (cells w h) (ahead w h c (k + 1)) (opposite (k + 1)) (cut_to w h c k link) long x z

          go : Dec (opposite (get_or link x 0) ≡ k + 1) → (get_or (cut_to w h c k link) x 0 ≡ get_or link x 0) ⊎ (get_or (cut_to w h c k link) x 0 ≡ 0)
              → (opposite (get_or link x 0) ≤ k → get_or (cut_to w h c k link) x 0 ≡ 0) → get_or (cut_to w h c (suc k) link) x 0 ≡ 0
          go (no o) _ rest = zero_stays (rest (omega arith))
          go (yes q) (inr z) rest = zero_stays z
          go (yes q) (inl e) rest =
              cut_hits (cells w h) (ahead w h c (k + 1)) (opposite (k + 1)) (cut_to w h c k link) long x
              (sym (ap (ahead w h c) (sym q) ∙ stepped_ahead step_from)) i (e ∙ sym (back q))

-- The four directions -----------------------------------------------------------------------------------------------------------------

-- l is l₀ cut in the first k directions
pub record Cut (w h c k : ℕ) (l₀ l : List ℕ) : Type 0 where
  pub is : l ≡ cut_to w h c k l₀

pub cut_begin : (w h c : ℕ) (l : List ℕ) → Cut w h c 0 l l
unfolding cut_to
cut_begin w h c l = record { is = refl }

pub cut_next : {w h c k : ℕ} {l₀ l : List ℕ} (y d : ℕ) (l' : List ℕ) → Cut w h c k l₀ l → y ≡ ahead w h c (k + 1) → d ≡ opposite (k + 1)
    → l' ≡ cut_at (cells w h) y d l → Cut w h c (k + 1) l₀ l'
unfolding cut_to
cut_next {k = k} y d l' t a o e = record { is = rw (add-one k, e, a, o, t.is) }

-- from direction 1 on: direction d cut, or nothing there to cut
module _ {w h c d : ℕ} {l₀ l : List ℕ} (low : 1 ≤ d) (t : Cut w h c (d - 1) l₀ l) where
  pub cut_there : (y e : ℕ) (l' : List ℕ) → y ≡ ahead w h c d → e ≡ opposite d → l' ≡ cut_at (cells w h) y e l → Cut w h c (d + 1 - 1) l₀ l'
  cut_there y e l' a o q =
      let this : d - 1 + 1 ≡ d = omega arith in
      let next : d + 1 - 1 ≡ d - 1 + 1 = omega arith in
      rw next (cut_next y e l' t (rw this a) (rw this o) q)

  pub cut_nowhere : cells w h ≤ ahead w h c d → Cut w h c (d + 1 - 1) l₀ l
  cut_nowhere off = cut_there (ahead w h c d) (opposite d) l refl refl (sym (cut_off (cells w h) (ahead w h c d) (opposite d) l off))

pub cut_length : {w h c k : ℕ} {l₀ l : List ℕ} → Cut w h c k l₀ l → length l ≡ length l₀
cut_length {w} {h} {c} {k} {l₀} t = ap length t.is ∙ cuts_long w h c l₀ k

-- c's own link cut, and each that leads to c: the links once c is blocked
module _ (w h c : ℕ) (wide : 0 < w) (on : c < cells w h) (link : List ℕ) (room : cells w h ≤ length link) where
  abbrev own : List ℕ
  own = set link c 0

  -- the link of a cell other than c
  other : (x : ℕ) → x ≢ c → get_or own x 0 ≡ get_or link x 0
  other x d = get_or-set_other link c x 0 0 d

  -- a link of 0 does not lead to c
  own_none : next w h own c ≢ c
  own_none e = omega (arith, ap (ahead w h c) (get_or-set_same link c 0 0 (omega arith)), none_ahead w h c)

  -- beyond the plot, at c, at a cell that leads to c, and at any other
  entry_same : (x : ℕ) → Dec (x < cells w h) → Dec (x ≡ c) → Dec (next w h own x ≡ c) → get_or (cut_to w h c 4 own) x 0 ≡ get_or (unlinked w h link c) x 0
  entry_same x (no o) _ _ =
      cuts_keep w h c wide on own x (λ i. absurd (o i)) 4 ∙ other x (λ e. o (omega arith)) ∙ sym (links_beyond w h link c x (omega arith))
  entry_same x (yes i) (yes q) _ =
      rw q (cuts_keep w h c wide on own c (λ _. own_none) 4 ∙ get_or-set_same link c 0 0 (omega arith)
      ∙ sym (links_at w h link c c room on ∙ cut_own w h link c))
  entry_same x (yes i) (no d) (yes e) =
      cuts_to w h c wide on own (rw length-set room) x i e 4 (stepped_high (step_from w h c wide on own (rw length-set room) x i e))
      ∙ sym (links_at w h link c x room i ∙ cut_pointing w h link c x d (ap (ahead w h x) (sym (other x d)) ∙ e))
  entry_same x (yes i) (no d) (no e) =
      cuts_keep w h c wide on own x (λ _. e) 4 ∙ other x d
      ∙ sym (links_at w h link c x room i ∙ uncut w h link c x d (λ z. e (ap (ahead w h x) (other x d) ∙ z)))

  -- THE FOUR DIRECTIONS CUT WHAT A REPORT CUTS OVER ALL CELLS.
  cuts_are : cut_to w h c 4 own ≡ unlinked w h link c
  cuts_are =
      ext_get_or 0 _ _ (cuts_long w h c own 4 ∙ length-set link c 0 ∙ sym (links_long w h link c))
      (λ x b. entry_same x (dec_lt x (cells w h)) (ℕ_discrete x c) (ℕ_discrete (next w h own x) c))

  pub cut_end : {k : ℕ} {l : List ℕ} → Cut w h c k (set link c 0) l → k ≡ 4 → l ≡ unlinked w h link c
  cut_end t e = rw e at t.is ∙ cuts_are
