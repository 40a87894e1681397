-- One number serves refusal 2 for many buffers, and one serves refusal 3 for many cells: the least length, the largest cell.
-- Assumes nothing.
use Rattle.std.specs.Prelude.{Ok}
use mathlib.Core.Path.{◌≡◌, refl, sym, ap, ◌∙◌}
use mathlib.Core.Bool.{Bool, true, false, ◌||◌, or-false, or_assoc, or_self_left}
use mathlib.Core.List.{List, [], ◌∷◌, ◌++◌}
use Prim.Native.Nat.{ℕ, min, max}
use native.Mathlib.Omega.{arith}
use borrow.Author.Tests.{ltb-true, ltb-false, leb-true, leb-false, lt-ltb, le-leb}
use lib.Dec.{ltb, leb}
use lib.ListN.{length, length-replicate}
use Rattle.model.specs.Plot.{cells}
use Rattle.model.specs.Lent.{Lent, Scratch, buffers_of, scratch_buffers}
use Rattle.model.specs.Head.{cells_of, cells_named}
use Rattle.model.specs.Refusals.{too_short, any_short, any_outside, fits, check, acceptance}
use Rattle.model.specs.Layout.{layout_check}
use Rattle.model.specs.Plan.{plan_check}
use Rattle.model.specs.declared.Head.{Head}
use Rattle.model.specs.Verdict.{Verdict}
use Rattle.model.proofs.Lists.Bools.{make_or, or_false as both_false}
use Rattle.model.proofs.Calls.Acceptance.{room_lent, both_on, fits_passed}
use Rattle.checks.specs.Given.{Given}
use Rattle.checks.specs.SharedTests.{blank, fits_within, fits_with, check_with}
use Rattle.model.proofs.Lists.Scans.{same_test}

-- The least length, the largest cell ------------------------------------------------------------------------------------------

-- buffers whose shortest has `room` entries, as far as refusal 2 asks; and cells whose farthest is `far`, as far as 3 asks
pub record Shortest (room : ℕ) (buffers : List (List ℕ)) : Type 0 where
  pub short : (n : ℕ) → ltb room n ≡ any_short n buffers

pub record Farthest (far : ℕ) (named : List ℕ) : Type 0 where
  pub outside : (n : ℕ) → leb n far ≡ any_outside n named

pub long : (n : ℕ) → length (blank n) ≡ n
unfolding blank
long n = length-replicate {A = ℕ} n 0

any_join : (n : ℕ) (bs cs : List (List ℕ)) → any_short n (bs ++ cs) ≡ (any_short n bs || any_short n cs)
any_join n [] cs = refl
any_join n (b ∷ bs) cs = ap (λ t. too_short n b || t) (any_join n bs cs) ∙ sym (or_assoc (too_short n b) (any_short n bs) (any_short n cs))

-- an or, by cases on its first part
either : {P : Type 0} (a b : Bool) → (a || b) ≡ true → (a ≡ true → P) → (b ≡ true → P) → P
either true b e f g = f refl
either false b e f g = g e

min_short : (n a b : ℕ) → ltb (min a b) n ≡ (ltb a n || ltb b n)
min_short n a b =
    same_test (ltb (min a b) n) (ltb a n || ltb b n)
    (λ t. make_or (ltb a n) (ltb b n) (λ e. lt-ltb b n (omega (arith, ltb-true (min a b) n t, ltb-false a n e))))
    (λ t. lt-ltb (min a b) n (either (ltb a n) (ltb b n) t (λ e. omega (arith, ltb-true a n e)) (λ e. omega (arith, ltb-true b n e))))

max_outside : (n a b : ℕ) → leb n (max a b) ≡ (leb n a || leb n b)
max_outside n a b =
    same_test (leb n (max a b)) (leb n a || leb n b)
    (λ t. make_or (leb n a) (leb n b) (λ e. le-leb n b (omega (arith, leb-true n (max a b) t, leb-false n a e))))
    (λ t. le-leb n (max a b) (either (leb n a) (leb n b) t (λ e. omega (arith, leb-true n a e)) (λ e. omega (arith, leb-true n b e))))

shortest_one : {l : List ℕ} → Shortest (length l) (l ∷ [])
shortest_one {l} = record { short = λ n. sym (or-false (too_short n l)) }

shortest_more : {x a : ℕ} {l : List ℕ} {ls : List (List ℕ)} → x ≡ min (length l) a → Shortest a ls → Shortest x (l ∷ ls)
shortest_more {x} {a} {l} e s = record { short = λ n. rw (e, min_short n (length l) a, s.short n) }

pub farthest_one : {c : ℕ} → Farthest c (c ∷ [])
farthest_one {c} = record { outside = λ n. sym (or-false (leb n c)) }

pub farthest_more : {x c d : ℕ} {cs : List ℕ} → x ≡ max c d → Farthest d cs → Farthest x (c ∷ cs)
farthest_more {x} {c} {d} e s = record { outside = λ n. rw (e, max_outside n c d, s.outside n) }

-- a further buffer of that length
shortest_spare : {x a : ℕ} {ls : List (List ℕ)} (spare : ℕ) → x ≡ min spare a → Shortest a ls → Shortest x (blank spare ∷ ls)
shortest_spare spare e s = shortest_more (rw (long spare) e) s

-- Verdicts --------------------------------------------------------------------------------------------------------------------

fits_same : (w h : ℕ) (bs cs : List (List ℕ)) (named more : List ℕ) → any_short (cells w h) bs ≡ any_short (cells w h) cs
    → any_outside (cells w h) named ≡ any_outside (cells w h) more → fits w h bs named ≡ fits w h cs more
unfolding fits
fits_same w h bs cs named more e f = rw (e, f)

fits_by : {room far : ℕ} {bs : List (List ℕ)} {named : List ℕ} (w h : ℕ) → Shortest room bs → Farthest far named
    → fits_within w h room far ≡ fits w h bs named
fits_by {room} {far} {bs} {named} w h s t =
    fits_same w h (blank room ∷ []) bs (far ∷ []) named
    (rw (or-false, long room) (s.short (cells w h))) (rw or-false (t.outside (cells w h)))

check_same : (head : Head) (p : Lent) (bs cs : List (List ℕ)) (named more : List ℕ) → any_short (cells_of head) bs ≡ any_short (cells_of head) cs
    → any_outside (cells_of head) named ≡ any_outside (cells_of head) more → check head p bs named ≡ check head p cs more
unfolding check
check_same head p bs cs named more e f = rw (fits_same head.width head.height bs cs named more e f)

-- what is lent, with the least of its lengths
pub shortest_lent : {room : ℕ} (p : Lent) → room ≡ min (length p.ground) (min (length p.learned) (length p.link)) → Shortest room (buffers_of p)
shortest_lent p e = shortest_more e (shortest_more refl shortest_one)

pub layout_by : {v : Verdict} {room far : ℕ} (w h start goal : ℕ) (p : Lent) → v ≡ fits_within w h room far
    → room ≡ min (length p.ground) (min (length p.learned) (length p.link)) → far ≡ max goal start → v ≡ layout_check w h start goal p
unfolding layout_check
layout_by w h start goal p r e f = r ∙ fits_by w h (shortest_lent p e) (farthest_more f farthest_one)

module _ (head : Head) (p : Lent) where
  -- refusals 1 to 3 as code asks them, and what they leave
  pub with_by : {v : Verdict} {room far : ℕ} (spare also : ℕ) → v ≡ fits_within head.width head.height room far
      → room ≡ min spare (min (length p.ground) (min (length p.learned) (length p.link))) → far ≡ max also (max head.goal head.cell)
      → v ≡ fits_with head p spare also
  with_by spare also r e f =
      r ∙ fits_by head.width head.height (shortest_spare spare e (shortest_lent p refl)) (farthest_more f (farthest_more refl farthest_one))

  pub with_given : (spare also : ℕ) → fits_with head p spare also ≡ Ok tt → Given head p.ground p.learned p.link
  with_given spare also e =
      let f = fits_passed head.width head.height (blank spare ∷ buffers_of p) (also ∷ cells_named head) e in
      let on = both_on head.width head.height head.goal head.cell (both_false (leb (cells_of head) also) _ f.2).1 in
      record {
        sides = f.0;
        goal_on = on.0;
        cart_on = on.1;
        room = room_lent (cells_of head) p (both_false (too_short (cells_of head) (blank spare)) _ f.1).1;
      }

  -- the first buffer's length again, and the goal again, ask nothing new
  spare_ground : (n : ℕ) → any_short n (blank (length p.ground) ∷ buffers_of p) ≡ any_short n (buffers_of p)
  spare_ground n = rw (long (length p.ground)) (or_self_left (too_short n p.ground) _)

  also_goal : (n : ℕ) → any_outside n (head.goal ∷ cells_named head) ≡ any_outside n (cells_named head)
  also_goal n = or_self_left (leb n head.goal) _

  -- each call's verdict from the shared one
  pub accepts_by : check_with head p (length p.ground) head.goal ≡ acceptance head p
  accepts_by =
      check_same head p (blank (length p.ground) ∷ buffers_of p) (buffers_of p) (head.goal ∷ cells_named head) (cells_named head)
      (spare_ground (cells_of head)) (also_goal (cells_of head))

  pub report_by : (c : ℕ) → check_with head p (length p.ground) c ≡ check head p (buffers_of p) (c ∷ cells_named head)
  report_by c =
      check_same head p (blank (length p.ground) ∷ buffers_of p) (buffers_of p) (c ∷ cells_named head) (c ∷ cells_named head)
      (spare_ground (cells_of head)) refl

  pub plan_by : {v : Verdict} {spare : ℕ} (s : Scratch) → v ≡ check_with head p spare head.goal
      → spare ≡ min (length s.mark) (min (length s.cost) (length s.trail)) → v ≡ plan_check head p s
  unfolding plan_check
  plan_by {spare = spare} s r e =
      let t : Shortest spare (scratch_buffers s) = shortest_more e (shortest_more refl shortest_one) in
      r ∙ check_same head p (blank spare ∷ buffers_of p) (scratch_buffers s ++ buffers_of p) (head.goal ∷ cells_named head) (cells_named head)
      (rw (long spare, t.short (cells_of head)) (sym (any_join (cells_of head) (scratch_buffers s) (buffers_of p)))) (also_goal (cells_of head))
