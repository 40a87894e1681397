-- List's verdict in each of its cases, and what it gives to the walk that writes.
-- Assumes nothing.
use Rattle.std.specs.Prelude.{Ok, Err}
use Prim.Native.Nat.{ℕ, ◌+◌, ◌≤◌, ◌<◌}
use mathlib.Core.Path.{◌≡◌, sym, ◌∙◌}
use mathlib.Core.Bool.{Bool, true, false, not}
use mathlib.Core.List.{List}
use native.Mathlib.Omega.{arith}
use borrow.Author.Tests.{lt-ltb, le-ltb, ltb-false, not-false}
use lib.ListN.{length, get_or, take}
use Rattle.walks.specs.Route.{arrived, follow}
use Rattle.model.specs.Plot.{cells}
use Rattle.model.specs.Lent.{Lent, fronted}
use Rattle.model.specs.Route.{stands, cells_from, route}
use Rattle.model.specs.Refusals.{refuse_if, too_short, acceptance}
use Rattle.model.specs.Listing.{list_check}
use Rattle.model.specs.Ways.{Accepts}
use Rattle.model.specs.declared.Head.{Head}
use Rattle.model.specs.declared.Reason.TheVariants.{Short, NoRoute}
use Rattle.model.proofs.Calls.Acceptance.{passed, both_passed, accepts_held}
use Rattle.model.proofs.Grid.RouteLaws.{RouteOn, leads_stands}
use Rattle.model.proofs.Lists.Fronted.{fronted_front}
use Rattle.model.proofs.Calls.ListLaws.{cells_long}
use Rattle.calls.specs.RouteWritten.{Onward, ends, goes, Writable, RouteFilled}

-- the links of a route that stands stay on the plot
route_onward : {w h goal : ℕ} (p : Lent) {c v : ℕ} → goal < cells w h → RouteOn w h goal p c v → Onward w h p.link v c
route_onward p on arrived = ends on
route_onward {w} {h} p on (follow {x = x} {n = n} k e r) =
    goes {v = n} {c = x} k.inside (rw k.lands (route_onward p on r))

module _ (head : Head) (p : Lent) where
  pub route_long : get_or p.learned head.cell 0 + 1 ≡ length (route head p)
  unfolding route
  route_long = sym (cells_long head.width head.height p.link (get_or p.learned head.cell 0) head.cell)

  -- The verdict; s is whether the route stands
  module _ (a : Accepts head p) (buffer : List ℕ) (s : Bool) (e : s ≡ stands head p) where
    pub list_lost : s ≡ false → Err NoRoute ≡ list_check head p buffer
    unfolding list_check
    list_lost no-route = rw (a, sym e ∙ no-route)

    pub list_short : s ≡ true → length buffer ≤ get_or p.learned head.cell 0 → Err Short ≡ list_check head p buffer
    unfolding list_check
    list_short stood few = rw (a, sym e ∙ stood, lt-ltb (length buffer) (length (route head p)) (omega (arith, route_long)))

    pub list_passes : s ≡ true → get_or p.learned head.cell 0 < length buffer → (Ok tt) ≡ list_check head p buffer
    unfolding list_check
    list_passes stood room = rw (a, sym e ∙ stood, le-ltb (length buffer) (length (route head p)) (omega (arith, route_long)))

  -- where it accepts, so are the data, and the route can be written
  pub list_accepts : (buffer : List ℕ) → list_check head p buffer ≡ Ok tt → Accepts head p
  unfolding list_check
  list_accepts buffer ok = (both_passed (acceptance head p) _ ok).0

  pub list_writable : (buffer : List ℕ) → list_check head p buffer ≡ Ok tt
      → Writable head.width head.height (get_or p.learned head.cell 0) head.cell p.link buffer
  unfolding list_check
  list_writable buffer ok =
      let t =
      both_passed (acceptance head p) (refuse_if (not (stands head p)) NoRoute (refuse_if (too_short (length (route head p)) buffer) Short (Ok tt)))
      ok in
      let u = passed (not (stands head p)) _ _ t.1 in
      let room : length (route head p) ≤ length buffer = ltb-false _ _ (passed (too_short (length (route head p)) buffer) _ _ u.1).0 in
      let held = accepts_held head p t.0 in
      record {
        sides = held.placed.sides;
        links = held.room.links;
        onward =
            route_onward p held.placed.goal_on
            (leads_stands p held.fit head.cell held.placed.cart_on (not-false (stands head p) u.0));
        room = omega (arith, route_long);
      }

  -- k cells were written
  pub list_filled : (buffer l : List ℕ) (k : ℕ) → list_check head p buffer ≡ Ok tt → k ≡ get_or p.learned head.cell 0 + 1
      → l ≡ fronted (cells_from head.width head.height p.link (get_or p.learned head.cell 0) head.cell) buffer
      → RouteFilled head p buffer k l
  unfolding route
  list_filled buffer l k ok e is = record { count = e ∙ route_long; is = is }

-- the front that was written, read back
module _ {head : Head} {p : Lent} {buffer l : List ℕ} {k : ℕ} (f : RouteFilled head p buffer k l) where
  pub filled_back : take k l ≡ route head p
  filled_back = rw (f.count, f.is) (fronted_front (route head p) buffer)
