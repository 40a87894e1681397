-- Report: the cell is blocked, the data stay sound, and two reports commute.
-- Assumes nothing.
use Rattle.std.specs.Prelude.{Ok, Err}
use mathlib.Core.Path.{◌≡◌, refl, sym, ◌∙◌}
use mathlib.Core.Logic.{◌≢◌}
use mathlib.Core.Bool.{Bool, true, false, ◌||◌}
use mathlib.Core.List.{List, ◌∷◌}
use Prim.Native.Nat.{ℕ, ◌≤◌, ◌<◌}
use native.Mathlib.Decide.{ℕ_discrete}
use native.Mathlib.Omega.{arith}
use borrow.Author.Tests.{eq-eqb, eqb-true, eqb-false, leb-false, ne_eqb, lt-leb}
use lib.Dec.{leb, eqb}
use lib.ListN.{length, get_or, set, length-set}
use lib.Seq.{get_or-set_same, get_or-set_other}
use Rattle.model.specs.Plot.{cells, free, allowed}
use Rattle.model.specs.Lent.{Lent, lent_with, buffers_of, After}
use Rattle.model.specs.Head.{cells_of, cells_named}
use Rattle.model.specs.Route.{next}
use Rattle.model.specs.Refusals.{refuse_if, and_then, fits, check, any_outside, changed}
use Rattle.model.specs.Report.{report_check, link_once_blocked, unlinked, blocked, reported}
use Rattle.model.specs.declared.Head.{Head}
use Rattle.model.specs.declared.Reason.{Reason}
use Rattle.model.specs.declared.Reason.TheVariants.{Outside, OwnCell}
use Rattle.model.specs.Verdict.{Verdict}
use Rattle.model.specs.declared.Changed.{Changed}
use Rattle.model.proofs.Lists.Bools.{or_false}
use Rattle.model.proofs.Lists.Filled.{length_filled, filled_above, filled_at}
use Rattle.model.proofs.Grid.Geometry.{allowed_here, allowed_on, allowed_free, allow}
use Rattle.model.specs.Fit.{Linked, Fit, Room, Placed, Held}
use Rattle.model.proofs.Calls.Soundness.{sound_fit, fit_sound}
use Rattle.model.proofs.Calls.Acceptance.{passed, both_passed, room_lent, lent_room, both_on, on_both, place, fits_passed, fits_all}
use Rattle.model.proofs.Calls.Acceptance.{check_passed, check_all}

-- THE CALL ------------------------------------------------------------------------------------------------------------------------

module _ (head : Head) (p : Lent) (c : ℕ) where
  pub report_passed : report_check head p c ≡ Ok tt → Held head p × (c < cells_of head) × (c ≢ head.cell)
  unfolding report_check
  report_passed e =
      let named = c ∷ cells_named head in
      let both = both_passed (check head p (buffers_of p) named) (refuse_if (eqb c head.cell) OwnCell (Ok tt)) e in
      let t = check_passed head p (buffers_of p) named both.0 in
      let f = fits_passed head.width head.height (buffers_of p) named t.0 in
      let o = or_false (leb (cells_of head) c) _ f.2 in
      let on = both_on head.width head.height head.goal head.cell o.1 in (
        record {
          placed = place head.width head.height head.goal head.cell f.0 on.0 on.1;
          room = room_lent (cells_of head) p f.1;
          fit = sound_fit head p t.1;
        },
        leb-false _ _ o.0,
        eqb-false _ _ (passed (eqb c head.cell) OwnCell (Ok tt) both.1).0,
      )

  pub pass_report : Held head p → c < cells_of head → c ≢ head.cell → report_check head p c ≡ Ok tt
  unfolding report_check
  pass_report a i n =
      rw (
        check_all head p (buffers_of p) (c ∷ cells_named head)
            (fits_all head.width head.height (buffers_of p) (c ∷ cells_named head) a.placed.sides (lent_room (cells_of head) p a.room)
            outside)
            (fit_sound head p a.fit),
        ne_eqb c head.cell n,
      )
    where
      outside : any_outside (cells_of head) (c ∷ cells_named head) ≡ false
      outside =
          rw (lt-leb (cells_of head) c i) (on_both head.width head.height head.goal head.cell a.placed.goal_on a.placed.cart_on)

-- what report asks of accepted data: 3 for the reported cell, then 5
pub report_rest_law : (head : Head) (p : Lent) (c : ℕ) → Held head p
    → report_check head p c ≡ refuse_if (leb (cells_of head) c) Outside (refuse_if (eqb c head.cell) OwnCell (Ok tt))
unfolding report_check check fits
report_rest_law head p c a =
    rw (
      a.placed.sides,
      lent_room (cells_of head) p a.room,
      on_both head.width head.height head.goal head.cell a.placed.goal_on a.placed.cart_on,
      fit_sound head p a.fit,
    )
    (go (leb (cells_of head) c))
  where
    go : (b : Bool) → and_then (and_then (refuse_if (b || false) Outside (Ok tt)) (Ok tt)) (refuse_if (eqb c head.cell) OwnCell (Ok tt))
        ≡ refuse_if b Outside (refuse_if (eqb c head.cell) OwnCell (Ok tt))
    go true = refl
    go false = refl

-- what report answers and leaves, in its two cases
pub data Reporting (head : Head) (p : Lent) (c : ℕ) : After Changed → Type 0 where
  report_refused : {why : Reason} → report_check head p c ≡ Err why
      → Reporting head p c (record { answer = changed head (Err why); lists = p })
  report_taken : Held head p → c < cells_of head → c ≢ head.cell
      → Reporting head p c (record { answer = changed head (Ok tt); lists = blocked head p c })

pub report_is : (head : Head) (p : Lent) (c : ℕ) → Reporting head p c (reported head p c)
unfolding reported
report_is head p c = go _ refl
  where
    go : (v : Verdict) → report_check head p c ≡ v → Reporting head p c (elim v [
      | Ok _ ↦ record { answer = changed head (Ok tt); lists = blocked head p c }
      | Err why ↦ record { answer = changed head (Err why); lists = p }
    ])
    go (Ok _) e = let a = report_passed head p c e in report_taken a.0 a.1 a.2
    go (Err why) e = report_refused e

-- The ground and the links once c is blocked --------------------------------------------------------------------------------------

-- what is free then was free before, and what was free stays free but for c
free_before : (ground : List ℕ) (c x : ℕ) → c < length ground → free (set ground c 1) x ≡ true → (free ground x ≡ true) × (x ≢ c)
free_before ground c x l e = go (ℕ_discrete x c)
  where
    go : Dec (x ≡ c) → (free ground x ≡ true) × (x ≢ c)
    go (yes q) = absurd (omega (arith, eqb-true (get_or (set ground c 1) c 0) 0 (rw q at e), get_or-set_same ground c 1 0 l))
    go (no d) = (rw (get_or-set_other ground c x 1 0 d) at e, d)

free_after : (ground : List ℕ) (c x : ℕ) → x ≢ c → free ground x ≡ true → free (set ground c 1) x ≡ true
free_after ground c x d e = rw (get_or-set_other ground c x 1 0 d) e

module _ (w h : ℕ) (link : List ℕ) (c : ℕ) where
  -- the link of c is cut, and each that points to c; every other stays
  pub cut_own : link_once_blocked w h link c c ≡ 0
  unfolding link_once_blocked
  cut_own = simp (eq-eqb c c refl)

  pub cut_pointing : (x : ℕ) → x ≢ c → next w h link x ≡ c → link_once_blocked w h link c x ≡ 0
  unfolding link_once_blocked
  cut_pointing x d e = simp (ne_eqb x c d, eq-eqb (next w h link x) c e)

  pub uncut : (x : ℕ) → x ≢ c → next w h link x ≢ c → link_once_blocked w h link c x ≡ get_or link x 0
  unfolding link_once_blocked
  uncut x d n = simp (ne_eqb x c d, ne_eqb (next w h link x) c n)

  -- so a link that is left is the old one, and neither stands at c nor points to it
  left_link : (x : ℕ) → link_once_blocked w h link c x ≢ 0 → (link_once_blocked w h link c x ≡ get_or link x 0) × (x ≢ c) × (next w h link x ≢ c)
  left_link x n = go (ℕ_discrete x c) (ℕ_discrete (next w h link x) c)
    where
      go : Dec (x ≡ c) → Dec (next w h link x ≡ c) → (link_once_blocked w h link c x ≡ get_or link x 0) × (x ≢ c) × (next w h link x ≢ c)
      go (yes e) _ = absurd (n (rw e cut_own))
      go (no d) (yes e) = absurd (n (cut_pointing x d e))
      go (no d) (no e) = (uncut x d e, d, e)

  pub links_long : length (unlinked w h link c) ≡ length link
  unfolding unlinked
  links_long = length_filled (cells w h) (link_once_blocked w h link c) link

  pub links_at : (x : ℕ) → cells w h ≤ length link → x < cells w h → get_or (unlinked w h link c) x 0 ≡ link_once_blocked w h link c x
  unfolding unlinked
  links_at x r i = filled_at (cells w h) (link_once_blocked w h link c) link r x i

  pub links_beyond : (x : ℕ) → cells w h ≤ x → get_or (unlinked w h link c) x 0 ≡ get_or link x 0
  unfolding unlinked
  links_beyond x o = filled_above (cells w h) (link_once_blocked w h link c) link x 0 o

-- THE DATA STAY SOUND -------------------------------------------------------------------------------------------------------------

module _ {w h goal cell : ℕ} (p : Lent) (r : Placed w h goal cell) (m : Room (cells w h) p) (f : Fit w h goal cell p) (c : ℕ) (on : c < cells w h)
    (other : c ≢ cell) where
  -- once c, which was free, is blocked
  abbrev cut : Lent
  cut = lent_with (set p.ground c 1) p.learned (unlinked w h p.link c)

  allowed_before : (x d : ℕ) → allowed w h (set p.ground c 1) x d ≡ true → allowed w h p.ground x d ≡ true
  allowed_before x d e =
      let was = free_before p.ground c in
      allow w h p.ground x d (was x (omega (arith, m.grounds)) (allowed_here w h (set p.ground c 1) x d e)).0
      (allowed_on w h (set p.ground c 1) x d e) (was _ (omega (arith, m.grounds)) (allowed_free w h (set p.ground c 1) x d e)).0

  links_after : (x : ℕ) → x < cells w h → get_or (unlinked w h p.link c) x 0 ≢ 0 → Linked w h goal (set p.ground c 1) (unlinked w h p.link c) x
  links_after x i n =
      let k = links_at w h p.link c x m.links i in
      let t = left_link w h p.link c x (λ z. n (k ∙ z)) in
      let e = k ∙ t.0 in
      let l = f.links x i (λ z. n (e ∙ z)) in
      record {
        away = l.away;
        may =
            rw e (allow w h (set p.ground c 1) x (get_or p.link x 0)
            (free_after p.ground c x t.1 (allowed_here w h p.ground x _ l.may))
            (allowed_on w h p.ground x _ l.may) (free_after p.ground c _ t.2 (allowed_free w h p.ground x _ l.may)));
      }

  ground_after : (x : ℕ) → x < cells w h → get_or (set p.ground c 1) x 0 ≤ 1
  ground_after x i = go (ℕ_discrete x c)
    where
      go : Dec (x ≡ c) → get_or (set p.ground c 1) x 0 ≤ 1
      go (yes q) = rw q (omega (arith, get_or-set_same p.ground c 1 0 (omega (arith, m.grounds))))
      go (no d) = omega (arith, get_or-set_other p.ground c x 1 0 d, f.ground x i)

  pub after_fit : Fit w h goal cell cut
  after_fit = record {
    ground = ground_after;
    cart = free_after p.ground c cell (λ e. other (sym e)) f.cart;
    learned = f.learned;
    zero_there = f.zero_there;
    close = λ x d i a. f.close x d i (allowed_before x d a);
    links = links_after;
  }

  pub after_room : Room (cells w h) cut
  after_room = record {
    grounds = rw length-set m.grounds;
    learneds = m.learneds;
    links = rw (links_long w h p.link c) m.links;
  }
