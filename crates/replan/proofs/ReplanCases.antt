-- Plan once its tests have passed: what its search is given, and what it answers and leaves in each of its three cases.
-- Assumes nothing.
use mathlib.Core.Path.{◌≡◌, refl, ap, ◌∙◌}
use mathlib.Core.Logic.{◌≢◌}
use mathlib.Core.List.{List}
use Prim.Native.Nat.{ℕ, ◌+◌, ◌*◌, ◌≤◌, ◌<◌}
use native.Mathlib.Omega.{arith}
use borrow.Author.Tests.{eq-eqb, ne_eqb}
use Rattle.std.proofs.lemmas.List.{length-take-le, get_or-take}
use lib.ListN.{length, get_or, take, replicate, length-replicate}
use Rattle.std.specs.Prelude.{Option, Some, None}
use Rattle.queue.specs.Queue.{heap_room}
use Rattle.model.specs.Lists.{filled}
use Rattle.model.specs.Lent.{Lent, Scratch, lent_with}
use Rattle.model.specs.Plot.{max_cells}
use Rattle.model.specs.Head.{cells_of}
use Rattle.model.specs.Search.{total}
use Rattle.model.specs.Plan.{after_plan, answered, searched, is_expanded, expanded_count, lesson, relinked, improved, found, lost, concluded, planned}
use Rattle.model.specs.declared.Head.{Head}
use Rattle.model.specs.declared.Outcome.{Outcome}
use Rattle.model.proofs.Calls.Acceptance.{held_accepts}
use Rattle.model.specs.Fit.{Held, Sized}
use Rattle.model.proofs.Calls.PlanCases.{plan_passed}
use Rattle.model.proofs.Lists.Filled.{tally_le}
use Rattle.replan.specs.Passed.{Passed, Planable}
use Rattle.search.specs.Hunt.{Searchable, Hunted}
use Rattle.search.specs.Listed.{Listed}
use Rattle.search.proofs.WorkspaceRoom.{room_fewer, room_long}

module _ {head : Head} {p : Lent} {s : Scratch} (a : Passed head p s) where
  pub held : Held head p
  held = (plan_passed head p s a.accepted).0

  pub sized : Sized (cells_of head) s
  sized = (plan_passed head p s a.accepted).1

  -- room for the largest plot is room for this one
  pub roomy : Planable head p s (replicate (heap_room max_cells) 0) (replicate max_cells 0) (replicate max_cells 0) (replicate max_cells 0)
  roomy =
      let each = length-replicate {A = ℕ} max_cells 0 in
      record { passed = a; space = room_fewer held.placed.few (room_long (length-replicate {A = ℕ} (heap_room max_cells) 0) each each each) }

  -- on the goal
  pub plan_there : head.cell ≡ head.goal → after_plan (answered head 0 Outcome.Arrived) p s ≡ planned head p s
  unfolding planned
  plan_there e = rw (planned, a.accepted, eq-eqb head.cell head.goal e)

  plan_goes : head.cell ≢ head.goal → planned head p s ≡ concluded head p (searched head p s)
  unfolding planned
  plan_goes d = rw (planned, a.accepted, ne_eqb head.cell head.goal d)

  module _ {end : Option ℕ} {count : ℕ} {t : Scratch} {list : List ℕ} (d : head.cell ≢ head.goal)
      (u : Hunted head p (cells_of head) s end count t list) where
    -- nothing waits
    pub plan_none : end ≡ None → after_plan (answered head count Outcome.NoWay) p t ≡ planned head p s
    unfolding concluded
    plan_none q =
        let is : planned head p s ≡ lost head p t = plan_goes d ∙ ap (concluded head p) (rw q at u.ends) in
        rw (is, ← u.counts)

    module _ {at : ℕ} (q : end ≡ Some at) where
      stopped : Hunted head p (cells_of head) s (Some at) count t list
      stopped = rw q at u

      pub stop_on : at < cells_of head
      stop_on = stopped.within

      -- cost and learned value at the stop are below twice N
      pub steps_small : get_or t.cost at 0 + get_or p.learned at 0 < 2 * max_cells
      steps_small = omega (arith, stopped.near, held.fit.learned at stop_on, held.placed.few)

      pub count_room : count ≤ length list
      unfolding expanded_count
      count_room = omega (arith, u.counts, tally_le (cells_of head) (is_expanded t.mark), u.lists)

      -- the front of the list alone names the expanded cells
      pub listed_front : Listed (cells_of head) t.mark (length (take count list)) (take count list)
      listed_front =
          let long : length (take count list) ≡ count = length-take-le count list count_room in
          rw long (record {
            inside = λ i b. rw (get_or-take count list i 0 b) (u.listed.inside i b);
            marked = λ i b. rw (get_or-take count list i 0 b) (u.listed.marked i b);
            each_one = λ x b m.
                let r = u.listed.each_one x b m in
                record { index = r.index; low = r.low; named = get_or-take count list r.index 0 r.low ∙ r.named };
          })

      pub plan_found : (learned link : List ℕ)
          → learned ≡ filled (cells_of head) (lesson (total p.learned t.cost at) p.learned t.mark t.cost) p.learned
          → link ≡ relinked head.width head.height t.trail (get_or t.cost at 0) at p.link
          → after_plan (answered head count (Outcome.Route (total p.learned t.cost at))) (lent_with p.ground learned link) t ≡ planned head p s
      unfolding concluded improved
      plan_found learned link el ek =
          let is : planned head p s ≡ found head p at t = plan_goes d ∙ ap (concluded head p) stopped.ends in
          rw (is, el, ek, ← u.counts)

-- what the search is given
pub searchable : {head : Head} {p : Lent} {s : Scratch} {heap place gone list : List ℕ} → Planable head p s heap place gone list
    → Searchable head p (cells_of head) s heap place gone list
searchable {head} {p} a = record {
  count = refl;
  accepted = held_accepts head p (held a.passed);
  sized = sized a.passed;
  space = a.space;
}
