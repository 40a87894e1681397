-- The flat tests are document 01's `sound`: what they say at each place is what `Fit` says, and `Fit` is `sound`.
-- Assumes nothing.
use mathlib.Core.Path.{◌≡◌, refl, ap, ◌∙◌}
use mathlib.Core.Logic.{◌≢◌}
use mathlib.Core.Bool.{Bool, true, false}
use mathlib.Core.List.{List}
use Prim.Native.Nat.{ℕ, zero, suc, ◌+◌, ◌-◌, ◌≤◌, ◌<◌}
use native.Mathlib.Nat.{mod-lt, mod-le}
use native.Mathlib.Decide.{ℕ_discrete}
use native.Mathlib.Omega.{arith}
use borrow.Author.Tests.{ltb-true, ltb-false, eqb-true, eq-eqb}
use lib.Dec.{ltb}
use lib.ListN.{get_or}
use Rattle.model.specs.Plot.{cells, column, ahead, allowed, gap}
use Rattle.model.specs.Lent.{lent_with}
use Rattle.model.specs.Head.{cells_of}
use Rattle.model.specs.Sound.{sound}
use Rattle.model.specs.declared.Head.{Head}
use Rattle.model.proofs.Grid.Geometry.{Stepped, right, down, left, up, ahead_is, stepped_ahead, stepped_high, column_right, column_left, allowed_here}
use Rattle.model.proofs.Grid.Geometry.{allowed_on, allowed_free, allow}
use Rattle.model.specs.Fit.{Fit}
use Rattle.model.proofs.Calls.Soundness.{sound_fit, fit_sound}
use Rattle.checks.specs.Flat.{flat, Clear, EndsMarked}
use Rattle.model.proofs.Lists.Scans.{same_test}
use Rattle.checks.proofs.sound.RowEnds.{SidesFit, unmarked, goes_on}
use Rattle.checks.proofs.sound.FlatTests.{Own, PairAt, Facts, flat_read, flat_write}

-- Steps -----------------------------------------------------------------------------------------------------------------------

-- what a step says in the direction that it has
record Went (w h c d y : ℕ) : Type 0 where
  rightward : d ≡ 1 → (column w c + 1 < w) × (y ≡ c + 1)
  downward : d ≡ 2 → (c + w < cells w h) × (y ≡ c + w)
  leftward : d ≡ 3 → (0 < column w c) × (y ≡ c - 1)
  upward : d ≡ 4 → (w ≤ c) × (y ≡ c - w)

went : {w h c d y : ℕ} → Stepped w h c d y → Went w h c d y
went (right l) =
    record {
      rightward = λ e. (l, refl);
      downward = λ e. absurd (omega arith);
      leftward = λ e. absurd (omega arith);
      upward = λ e. absurd (omega arith);
    }
went (down l) =
    record {
      rightward = λ e. absurd (omega arith);
      downward = λ e. (l, refl);
      leftward = λ e. absurd (omega arith);
      upward = λ e. absurd (omega arith);
    }
went (left l) =
    record {
      rightward = λ e. absurd (omega arith);
      downward = λ e. absurd (omega arith);
      leftward = λ e. (l, refl);
      upward = λ e. absurd (omega arith);
    }
went (up l) =
    record {
      rightward = λ e. absurd (omega arith);
      downward = λ e. absurd (omega arith);
      leftward = λ e. absurd (omega arith);
      upward = λ e. (l, refl);
    }

-- a step from c in direction d, to a free cell of the plot
record Led (w h : ℕ) (g : List ℕ) (c d : ℕ) : Type 0 where
  to : ℕ
  by : Stepped w h c d to
  on : to < cells w h
  there : get_or g to 0 ≡ 0

module _ {w h : ℕ} {g : List ℕ} {c d : ℕ} where
  led_allowed : get_or g c 0 ≡ 0 → Led w h g c d → allowed w h g c d ≡ true
  led_allowed z s =
      let e = stepped_ahead s.by in
      allow w h g c d (eq-eqb (get_or g c 0) 0 z) (rw e s.on) (rw e (eq-eqb (get_or g s.to 0) 0 s.there))

  allowed_led : allowed w h g c d ≡ true → Led w h g c d
  allowed_led a = record {
    to = ahead w h c d;
    by = ahead_is w h c d (allowed_on w h g c d a);
    on = allowed_on w h g c d a;
    there = eqb-true _ _ (allowed_free w h g c d a);
  }

module _ (w h goal cell : ℕ) (g l k e zs : List ℕ) (s : SidesFit w h) (m : EndsMarked w h e) (clear : Clear zs) where
  -- From the flat tests ---------------------------------------------------------------------------------------------------------

  module _ (f : Facts w (cells w h) goal cell g l k e zs) where
    -- a pair by its second cell
    right_pair : (i y : ℕ) → y ≡ i + 1 → y < cells w h → PairAt g l k (get_or e i 0) i y 1 3
    right_pair i y q on = rw q (f.right i (omega arith))

    below_pair : (i y : ℕ) → y ≡ i + w → y < cells w h → PairAt g l k (get_or zs i 0) i y 2 4
    below_pair i y q on = rw q (f.below i (omega arith))

    near : (c d y : ℕ) → c < cells w h → y < cells w h → get_or g c 0 ≡ 0 → get_or g y 0 ≡ 0 → Stepped w h c d y → gap (get_or l c 0) (get_or l y 0) ≤ 1
    near c d y b on a there (right i) = (right_pair c y refl on).near a there (unmarked w h e s.wide m c i)
    near c d y b on a there (down i) = (below_pair c y refl on).near a there (clear.zero c)
    near c d y b on a there (left i) =
        let x = unmarked w h e s.wide m (c - 1) (omega (arith, column_left w c s.wide i, mod-lt c s.wide)) in
        omega (arith, (right_pair (c - 1) c (omega (arith, mod-le c w)) b).near there a x)
    near c d y b on a there (up i) = omega (arith, (below_pair (c - w) c (omega arith) b).near there a (clear.zero (c - w)))

    -- where c's link d leads
    leading : (c d : ℕ) → c < cells w h → get_or k c 0 ≡ d → d ≢ 0 → d ≤ 4 → Led w h g c d
    leading c zero b q x y = absurd (x refl)
    leading c (suc zero) b q x y = go (ℕ_discrete c (cells w h - 1))
      where
        go : Dec (c ≡ cells w h - 1) → Led w h g c 1
        go (yes t) = absurd (f.stop (rw t at q))
        go (no t) =
            let p = (f.right c (omega arith)).onward q in
            record { to = c + 1; by = right (goes_on w h e s.wide m c b p.1); on = omega arith; there = p.0 }
    leading c (suc (suc zero)) b q x y = go (ltb (c + w) (cells w h)) refl
      where
        go : (t : Bool) → ltb (c + w) (cells w h) ≡ t → Led w h g c 2
        go true t =
            let on = ltb-true (c + w) (cells w h) t in
            record { to = c + w; by = down on; on = on; there = ((f.below c (omega arith)).onward q).0 }
        go false t =
            let r = ltb-false (c + w) (cells w h) t in
            let i : cells w h - w + (c - (cells w h - w)) ≡ c = omega (arith, s.row) in
            absurd (f.last (c - (cells w h - w)) (omega (arith, s.row, s.wide)) (rw i q))
    leading c (suc (suc (suc zero))) b q x y = go c refl
      where
        go : (t : ℕ) → c ≡ t → Led w h g c 3
        go zero t = absurd (f.start (rw t at q))
        go (suc i) t =
            let p = (right_pair (c - 1) c (omega arith) b).back q in
            let r = column_right w (c - 1) (goes_on w h e s.wide m (c - 1) (omega arith) p.1) in
            let back : c - 1 + 1 ≡ c = omega arith in
            record { to = c - 1; by = left (omega (arith, rw back at r)); on = omega arith; there = p.0 }
    leading c (suc (suc (suc (suc zero)))) b q x y = go (ltb c w) refl
      where
        go : (t : Bool) → ltb c w ≡ t → Led w h g c 4
        go true t = absurd (f.first c (ltb-true c w t) q)
        go false t =
            let r = ltb-false c w t in
            record { to = c - w; by = up r; on = omega (arith, s.wide); there = ((below_pair (c - w) c (omega arith) b).back q).0 }
    leading c (suc (suc (suc (suc (suc d))))) b q x y = absurd (omega arith)

    facts_fit : Fit w h goal cell (lent_with g l k)
    facts_fit = record {
      ground = λ c b. (f.own c b).low;
      cart = eq-eqb (get_or g cell 0) 0 f.cart;
      learned = λ c b. omega (arith, f.small c b);
      zero_there = f.home;
      close = λ c d b a.
          let r : Led w h g c d = allowed_led a in
          rw (stepped_ahead r.by) (near c d r.to b r.on (eqb-true _ _ (allowed_here w h g c d a)) r.there r.by);
      links = λ c b x. record {
        away = λ q. x (ap (λ i. get_or k i 0) q ∙ f.rest);
        may = led_allowed ((f.own c b).one x) (leading c (get_or k c 0) b refl x (f.own c b).few);
      };
    }

  -- To the flat tests -----------------------------------------------------------------------------------------------------------

  module _ (t : Fit w h goal cell (lent_with g l k)) (inside : goal < cells w h) where
    -- a link, and one of a known direction
    link_led : (c : ℕ) → c < cells w h → get_or k c 0 ≢ 0 → Led w h g c (get_or k c 0)
    link_led c b x = allowed_led (t.links c b x).may

    link_of : (c d : ℕ) → c < cells w h → get_or k c 0 ≡ d → 0 < d → Led w h g c d
    link_of c d b q x = rw q at (link_led c b (λ z. omega (arith, q, z, x)))

    own_of : (c : ℕ) → c < cells w h → Own (get_or g c 0) (get_or k c 0)
    own_of c b = record {
      low = t.ground c b;
      few = go (ℕ_discrete (get_or k c 0) 0);
      one = λ x. eqb-true _ _ (allowed_here w h g c (get_or k c 0) (t.links c b x).may);
    }
      where
        go : Dec (get_or k c 0 ≡ 0) → get_or k c 0 ≤ 4
        go (yes q) = omega arith
        go (no q) = stepped_high (link_led c b q).by

    -- a step between free cells
    close_of : (c d y : ℕ) → c < cells w h → y < cells w h → get_or g c 0 ≡ 0 → get_or g y 0 ≡ 0 → Stepped w h c d y → gap (get_or l c 0) (get_or l y 0) ≤ 1
    close_of c d y b on a there i =
        rw (stepped_ahead i) at (t.close c d b (led_allowed a (record { to = y; by = i; on = on; there = there })))

    right_of : (i : ℕ) → i < cells w h - 1 → PairAt g l k (get_or e i 0) i (i + 1) 1 3
    right_of i b = record {
      near = λ a there z. close_of i 1 (i + 1) (omega arith) (omega arith) a there (right (goes_on w h e s.wide m i (omega arith) z));
      onward = λ q.
          let r = link_of i 1 (omega arith) q (omega arith) in
          let u = (went r.by).rightward refl in
          (rw u.1 at r.there, unmarked w h e s.wide m i u.0);
      back = λ q.
          let r = link_of (i + 1) 3 (omega arith) q (omega arith) in
          let u = (went r.by).leftward refl in
          let v : r.to ≡ i = omega (arith, u.1) in
          let back : i + 1 - 1 ≡ i = omega arith in
          let x = rw back at (column_left w (i + 1) s.wide u.0) in
          (rw v at r.there, unmarked w h e s.wide m i (omega (arith, x, mod-lt (i + 1) s.wide)));
    }

    below_of : (i : ℕ) → i < cells w h - w → PairAt g l k (get_or zs i 0) i (i + w) 2 4
    below_of i b = record {
      near = λ a there z. close_of i 2 (i + w) (omega arith) (omega arith) a there (down (omega arith));
      onward = λ q.
          let r = link_of i 2 (omega arith) q (omega arith) in
          (rw ((went r.by).downward refl).1 at r.there, clear.zero i);
      back = λ q.
          let r = link_of (i + w) 4 (omega arith) q (omega arith) in
          let u = (went r.by).upward refl in
          let v : r.to ≡ i = omega (arith, u.1) in
          (rw v at r.there, clear.zero i);
    }

    fit_facts : Facts w (cells w h) goal cell g l k e zs
    fit_facts = record {
      own = own_of;
      small = λ c b. omega (arith, t.learned c b);
      right = right_of;
      below = below_of;
      first = λ i b q. omega (arith, ((went (link_of i 4 (omega (arith, s.row)) q (omega arith)).by).upward refl).0);
      last = λ i b q.
          omega (arith, s.row, ((went (link_of (cells w h - w + i) 2 (omega (arith, s.row)) q (omega arith)).by).downward refl).0);
      start = λ q. omega (arith, mod-le 0 w, ((went (link_of 0 3 (omega arith) q (omega arith)).by).leftward refl).0);
      stop = λ q.
          let r = link_of (cells w h - 1) 1 (omega arith) q (omega arith) in
          omega (arith, r.on, ((went r.by).rightward refl).1);
      cart = eqb-true _ _ t.cart;
      home = t.zero_there;
      rest = go (ℕ_discrete (get_or k goal 0) 0);
    }
      where
        go : Dec (get_or k goal 0 ≡ 0) → get_or k goal 0 ≡ 0
        go (yes q) = q
        go (no q) = absurd ((t.links goal inside q).away refl)

-- THE FLAT TESTS ARE `sound`.
pub flat_sound : (head : Head) (g l k e zs : List ℕ) → SidesFit head.width head.height → EndsMarked head.width head.height e → Clear zs
    → head.goal < cells_of head → flat head.width (cells_of head) head.goal head.cell g l k e zs ≡ sound head (lent_with g l k)
flat_sound head g l k e zs s m clear inside =
    let w = head.width in
    let h = head.height in
    let goal = head.goal in
    let cell = head.cell in
    same_test (flat w (cells w h) goal cell g l k e zs) (sound head (lent_with g l k))
    (λ t. fit_sound head (lent_with g l k) (facts_fit w h goal cell g l k e zs s m clear (flat_read w (cells w h) goal cell g l k e zs t)))
    (λ t. flat_write w (cells w h) goal cell g l k e zs (fit_facts w h goal cell g l k e zs s m clear (sound_fit head (lent_with g l k) t) inside))
