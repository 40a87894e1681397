-- List: its front is the route, from the cart's cell to the goal, one cell more than its steps, and never empty.
-- Assumes nothing.
use Rattle.std.specs.Prelude.{Ok, Err}
use mathlib.Core.Path.{◌≡◌, refl}
use mathlib.Core.Logic.{◌↔◌}
use mathlib.Core.Bool.{true, not}
use mathlib.Core.List.{List, []}
use Prim.Native.Nat.{ℕ, zero, suc, ◌+◌, ◌≤◌, ◌<◌}
use native.Mathlib.Omega.{arith}
use borrow.Author.Tests.{ltb-false, not-false}
use lib.ListN.{length, get_or, take}
use Rattle.walks.specs.Route.{arrived, follow}
use Rattle.model.specs.Lent.{Lent, fronted}
use Rattle.model.specs.Route.{next, stands, cells_from, route}
use Rattle.model.specs.Refusals.{refuse_if, too_short, acceptance}
use Rattle.model.specs.Numbers.{verdict_number}
use Rattle.model.specs.Listing.{AfterList, list_check, listed, list_question}
use Rattle.model.specs.declared.Head.{Head}
use Rattle.model.specs.declared.Reason.{Reason}
use Rattle.model.specs.declared.Reason.TheVariants.{Short, NoRoute}
use Rattle.model.specs.Verdict.{Verdict}
use Rattle.model.specs.Fit.{Held}
use Rattle.model.proofs.Calls.Acceptance.{not_both, passed, both_passed, accepts_held}
use Rattle.model.proofs.Lists.Fronted.{fronted_front, fronted_long, fronted_rest}
use Rattle.model.proofs.Grid.RouteLaws.{RouteOn, leads_stands}

-- The cells of a route ------------------------------------------------------------------------------------------------------------

pub cells_long : (w h : ℕ) (link : List ℕ) (v c : ℕ) → length (cells_from w h link v c) ≡ v + 1
unfolding cells_from
cells_long w h link zero c = omega arith
cells_long w h link (suc v) c = omega (arith, cells_long w h link v (next w h link c))

cells_first : (w h : ℕ) (link : List ℕ) (v c : ℕ) → get_or (cells_from w h link v c) 0 0 ≡ c
unfolding cells_from
cells_first w h link zero c = refl
cells_first w h link (suc v) c = refl

-- each cell after the first is the one to which the cell before links
cells_linked : (w h : ℕ) (link : List ℕ) (v c i : ℕ) → i < v
    → get_or (cells_from w h link v c) (suc i) 0 ≡ next w h link (get_or (cells_from w h link v c) i 0)
unfolding cells_from
cells_linked w h link zero c i l = absurd (omega arith)
cells_linked w h link (suc v) c zero l = cells_first w h link v (next w h link c)
cells_linked w h link (suc v) c (suc i) l = cells_linked w h link v (next w h link c) i (omega arith)

-- where a route of v links stands, the last of its cells is the goal
cells_last : {w h goal : ℕ} (p : Lent) {c v : ℕ} → RouteOn w h goal p c v → get_or (cells_from w h p.link v c) v 0 ≡ goal
unfolding cells_from
cells_last p arrived = refl
cells_last {w} {h} p (follow k e r) = rw k.lands (cells_last p r)

-- THE CALL ------------------------------------------------------------------------------------------------------------------------

module _ (head : Head) (p : Lent) (buffer : List ℕ) where
  -- what list hands back and leaves, in its two cases
  pub data ListingOf : AfterList → Type 0 where
    list_refused : {why : Reason} → list_check head p buffer ≡ Err why → ListingOf (record { front = []; buffer = buffer })
    list_written : list_check head p buffer ≡ Ok tt → Held head p → stands head p ≡ true → length (route head p) ≤ length buffer
        → ListingOf (record { front = route head p; buffer = fronted (route head p) buffer })

  list_passed : list_check head p buffer ≡ Ok tt → Held head p × (stands head p ≡ true) × (length (route head p) ≤ length buffer)
  unfolding list_check
  list_passed e =
      let a =
      both_passed (acceptance head p) (refuse_if (not (stands head p)) NoRoute (refuse_if (too_short (length (route head p)) buffer) Short (Ok tt)))
      e in
      let b = passed (not (stands head p)) _ _ a.1 in
      let c = passed (too_short (length (route head p)) buffer) _ _ b.1 in
      (accepts_held head p a.0, not-false (stands head p) b.0, ltb-false _ _ c.0)

  pub list_is : ListingOf (listed head p buffer)
  unfolding listed
  list_is = go _ refl
    where
      go : (v : Verdict) → list_check head p buffer ≡ v → ListingOf (elim v [
        | Ok _ ↦ record { front = route head p; buffer = fronted (route head p) buffer }
        | Err why ↦ record { front = []; buffer = buffer }
      ])
      go (Ok _) e = let a = list_passed e in list_written e a.0 a.1 a.2
      go (Err why) e = list_refused e

  -- what is written where the check accepts
  pub record ListAccepted (r : AfterList) : Type 0 where
    -- one cell more than steps: never empty
    pub long : length r.front ≡ get_or p.learned head.cell 0 + 1
    pub from_cart : get_or r.front 0 0 ≡ head.cell
    -- by links ..
    pub by_links : (i : ℕ) → i < get_or p.learned head.cell 0
        → get_or r.front (suc i) 0 ≡ next head.width head.height p.link (get_or r.front i 0)
    -- .. to the goal
    pub to_goal : get_or r.front (get_or p.learned head.cell 0) 0 ≡ head.goal
    -- the front is the buffer's own, and what stands behind it stays
    pub in_front : take (length r.front) r.buffer ≡ r.front
    pub behind : (x : ℕ) → length r.front ≤ x → get_or r.buffer x 0 ≡ get_or buffer x 0
    pub same_length : length r.buffer ≡ length buffer

  written : Held head p → stands head p ≡ true → length (route head p) ≤ length buffer
      → ListAccepted (record { front = route head p; buffer = fronted (route head p) buffer })
  unfolding route
  written a t fits = record {
    long = cells_long head.width head.height p.link (get_or p.learned head.cell 0) head.cell;
    from_cart = cells_first head.width head.height p.link (get_or p.learned head.cell 0) head.cell;
    by_links = cells_linked head.width head.height p.link (get_or p.learned head.cell 0) head.cell;
    to_goal = cells_last p (leads_stands p a.fit head.cell a.placed.cart_on t);
    in_front = fronted_front (route head p) buffer;
    behind = λ x. fronted_rest (route head p) buffer x 0;
    same_length = fronted_long (route head p) buffer fits;
  }

  writes : {r : AfterList} → ListingOf r → list_check head p buffer ≡ Ok tt → ListAccepted r
  writes (list_refused e) ok = absurd (not_both e ok)
  writes (list_written ok a t fits) _ = written a t fits

  -- WHERE A ROUTE STANDS and the buffer has room, its cells are written.
  pub list_writes : list_check head p buffer ≡ Ok tt → ListAccepted (listed head p buffer)
  list_writes = writes list_is

  leaves : {r : AfterList} {why : Reason} → ListingOf r → list_check head p buffer ≡ Err why → (r.front ≡ []) × (r.buffer ≡ buffer)
  leaves (list_refused _) e = (refl, refl)
  leaves (list_written ok a t fits) e = absurd (not_both e ok)

  -- REFUSED: the empty front, nothing written.
  pub list_leaves : {why : Reason} → list_check head p buffer ≡ Err why → ((listed head p buffer).front ≡ [])
      × ((listed head p buffer).buffer ≡ buffer)
  list_leaves = leaves list_is

  -- THE QUESTION gives 0 exactly where list writes.
  question_accepted : (v : Verdict) → (verdict_number v ≡ 0) ↔ (v ≡ Ok tt)
  question_accepted (Ok _) = (λ _. refl, λ _. refl)
  question_accepted (Err Reason.Sides) = (λ e. absurd (omega arith), λ e. absurd (not_both refl e))
  question_accepted (Err Reason.Short) = (λ e. absurd (omega arith), λ e. absurd (not_both refl e))
  question_accepted (Err Reason.Outside) = (λ e. absurd (omega arith), λ e. absurd (not_both refl e))
  question_accepted (Err Reason.Unsound) = (λ e. absurd (omega arith), λ e. absurd (not_both refl e))
  question_accepted (Err Reason.OwnCell) = (λ e. absurd (omega arith), λ e. absurd (not_both refl e))
  question_accepted (Err Reason.NoRoute) = (λ e. absurd (omega arith), λ e. absurd (not_both refl e))
  question_accepted (Err Reason.Form) = (λ e. absurd (omega arith), λ e. absurd (not_both refl e))

  pub question_exactly : (list_question head p buffer ≡ 0) ↔ (list_check head p buffer ≡ Ok tt)
  unfolding list_question
  question_exactly = question_accepted (list_check head p buffer)
