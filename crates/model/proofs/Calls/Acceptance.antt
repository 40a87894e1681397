-- The tests of a call say what `Held` says: accepted data are placed, have room and fit.
-- Assumes nothing.
use Rattle.std.specs.Prelude.{Ok, Err}
use mathlib.Core.Path.{◌≡◌, refl}
use mathlib.Core.Bool.{Bool, true, false, not}
use mathlib.Core.List.{List, [], ◌∷◌}
use Prim.Native.Nat.{ℕ, ◌*◌, ◌≤◌, ◌<◌}
use native.Mathlib.Nat.{mul-le-mul}
use native.Mathlib.Omega.{arith}
use borrow.Author.Tests.{ltb-false, leb-false, eqb-false, le-ltb, lt-leb, not-false}
use lib.Dec.{ltb, leb, eqb}
use lib.ListN.{length}
use Rattle.model.specs.Plot.{max_side, max_cells, bad_side, bad_sides, cells}
use Rattle.model.specs.Lent.{Lent, buffers_of}
use Rattle.model.specs.Head.{cells_of, cells_named}
use Rattle.model.specs.Sound.{sound}
use Rattle.model.specs.Refusals.{refuse_if, and_then, too_short, any_short, any_outside, fits, check}
use Rattle.model.specs.Ways.{Accepts}
use Rattle.model.specs.declared.Head.{Head}
use Rattle.model.specs.declared.Reason.{Reason}
use Rattle.model.specs.Verdict.{Verdict}
use Rattle.model.proofs.Lists.Bools.{or_false}
use Rattle.model.specs.Fit.{Room, Placed, Held}
use Rattle.model.proofs.Calls.Soundness.{sound_fit, fit_sound}

-- One test after another --------------------------------------------------------------------------------------------------------

-- no verdict is both
pub not_both : {v : Verdict} {why : Reason} → v ≡ Err why → v ≡ Ok tt → ⊥
not_both {v} e f = let z : ◌≡◌ {A = ℕ} 0 1 = cc in omega arith

pub passed : (b : Bool) (why : Reason) (next : Verdict) → refuse_if b why next ≡ Ok tt → (b ≡ false) × (next ≡ Ok tt)
passed true why next e = absurd (not_both refl e)
passed false why next e = (refl, e)

pub both_passed : (v next : Verdict) → and_then v next ≡ Ok tt → (v ≡ Ok tt) × (next ≡ Ok tt)
both_passed (Ok _) next e = (refl, e)
both_passed (Err why) next e = absurd (not_both refl e)

-- Sides -------------------------------------------------------------------------------------------------------------------------

good_side : (side : ℕ) → bad_side side ≡ false → (0 < side) × (side ≤ max_side)
good_side side e =
    let t = or_false (eqb side 0) (ltb max_side side) e in
    (omega (arith, eqb-false side 0 t.0), ltb-false max_side side t.1)

module _ (w h : ℕ) (e : bad_sides w h ≡ false) where
  sides_good : (bad_side w ≡ false) × (bad_side h ≡ false)
  unfolding bad_sides
  sides_good = or_false (bad_side w) (bad_side h) e

  pub side_wide : 0 < w
  side_wide = (good_side w sides_good.0).0

  pub side_high : 0 < h
  side_high = (good_side h sides_good.1).0

  pub cells_few : cells w h ≤ max_cells
  cells_few = mul-le-mul (good_side w sides_good.0).1 (good_side h sides_good.1).1

  -- a row is no longer than the plot
  pub row_within : w ≤ cells w h
  row_within = let l : w * 1 ≤ w * h = mul-le-mul (omega arith) side_high in omega arith

-- Rooms and cells ---------------------------------------------------------------------------------------------------------------

pub room_lent : (n : ℕ) (p : Lent) → any_short n (buffers_of p) ≡ false → Room n p
room_lent n p e =
    let a = or_false (too_short n p.ground) _ e in
    let b = or_false (too_short n p.learned) _ a.1 in
    let c = or_false (too_short n p.link) _ b.1 in
    record { grounds = ltb-false _ _ a.0; learneds = ltb-false _ _ b.0; links = ltb-false _ _ c.0 }

pub lent_room : (n : ℕ) (p : Lent) → Room n p → any_short n (buffers_of p) ≡ false
lent_room n p r =
    rw (le-ltb (length p.ground) n r.grounds, le-ltb (length p.learned) n r.learneds, le-ltb (length p.link) n r.links)

module _ (w h goal cell : ℕ) where
  pub both_on : any_outside (cells w h) (goal ∷ cell ∷ []) ≡ false → (goal < cells w h) × (cell < cells w h)
  both_on e =
      let a = or_false (leb (cells w h) goal) _ e in
      let b = or_false (leb (cells w h) cell) _ a.1 in
      (leb-false _ _ a.0, leb-false _ _ b.0)

  pub on_both : goal < cells w h → cell < cells w h → any_outside (cells w h) (goal ∷ cell ∷ []) ≡ false
  on_both i j = rw (lt-leb (cells w h) goal i, lt-leb (cells w h) cell j)

  pub place : bad_sides w h ≡ false → goal < cells w h → cell < cells w h → Placed w h goal cell
  place s i j = record {
    sides = s;
    wide = side_wide w h s;
    high = side_high w h s;
    few = cells_few w h s;
    goal_on = i;
    cart_on = j;
  }

-- The verdicts ------------------------------------------------------------------------------------------------------------------

module _ (w h : ℕ) (buffers : List (List ℕ)) (named : List ℕ) where
  pub fits_passed : fits w h buffers named ≡ Ok tt → (bad_sides w h ≡ false) × (any_short (cells w h) buffers ≡ false)
      × (any_outside (cells w h) named ≡ false)
  unfolding fits
  fits_passed e =
      let a = passed (bad_sides w h) _ _ e in
      let b = passed (any_short (cells w h) buffers) _ _ a.1 in
      (a.0, b.0, (passed (any_outside (cells w h) named) _ _ b.1).0)

  pub fits_all : bad_sides w h ≡ false → any_short (cells w h) buffers ≡ false → any_outside (cells w h) named ≡ false
      → fits w h buffers named ≡ Ok tt
  unfolding fits
  fits_all s r o = rw (s, r, o)

module _ (head : Head) (p : Lent) (buffers : List (List ℕ)) (named : List ℕ) where
  pub check_passed : check head p buffers named ≡ Ok tt → (fits head.width head.height buffers named ≡ Ok tt) × (sound head p ≡ true)
  unfolding check
  check_passed e =
      let t = both_passed (fits head.width head.height buffers named) _ e in
      (t.0, not-false (sound head p) (passed (not (sound head p)) _ _ t.1).0)

  pub check_all : fits head.width head.height buffers named ≡ Ok tt → sound head p ≡ true → check head p buffers named ≡ Ok tt
  unfolding check
  check_all f s = rw (f, s)

module _ (head : Head) (p : Lent) where
  pub accepts_held : Accepts head p → Held head p
  accepts_held e =
      let t = check_passed head p (buffers_of p) (cells_named head) e in
      let f = fits_passed head.width head.height (buffers_of p) (cells_named head) t.0 in
      let on = both_on head.width head.height head.goal head.cell f.2 in
      record {
        placed = place head.width head.height head.goal head.cell f.0 on.0 on.1;
        room = room_lent (cells_of head) p f.1;
        fit = sound_fit head p t.1;
      }

  pub held_accepts : Held head p → Accepts head p
  held_accepts a =
      check_all head p (buffers_of p) (cells_named head)
      (fits_all head.width head.height (buffers_of p) (cells_named head) a.placed.sides (lent_room (cells_of head) p a.room)
      (on_both head.width head.height head.goal head.cell a.placed.goal_on a.placed.cart_on))
      (fit_sound head p a.fit)
