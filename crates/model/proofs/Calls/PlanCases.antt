-- Plan as a call: its tests, and what it answers and leaves, in its four cases.
-- Assumes nothing.
use Rattle.std.specs.Prelude.{Ok, Err}
use mathlib.Core.Path.{◌≡◌, refl}
use mathlib.Core.Logic.{◌≢◌}
use mathlib.Core.Bool.{Bool, true, false}
use mathlib.Core.List.{◌++◌}
use Prim.Native.Nat.{ℕ}
use borrow.Author.Tests.{eqb-true, eqb-false, ltb-false, le-ltb}
use lib.Dec.{eqb}
use lib.ListN.{length}
use Rattle.model.specs.Lent.{Lent, Scratch, buffers_of, scratch_buffers}
use Rattle.model.specs.Head.{cells_of, cells_named}
use Rattle.model.specs.Route.{leads_from}
use Rattle.model.specs.Refusals.{too_short, any_short}
use Rattle.model.specs.Search.{Ended}
use Rattle.model.specs.Plan.{AfterPlan, answered, plan_check, searched, found, lost, concluded, planned}
use Rattle.model.specs.declared.Head.{Head}
use Rattle.model.specs.declared.Reason.{Reason}
use Rattle.model.specs.Verdict.{Verdict}
use Rattle.model.specs.declared.Outcome.{Outcome}
use Rattle.model.proofs.Lists.Bools.{or_false}
use Rattle.model.specs.Fit.{Sized, Held}
use Rattle.model.proofs.Calls.Soundness.{sound_fit, fit_sound}
use Rattle.model.proofs.Calls.Acceptance.{room_lent, lent_room, both_on, on_both, place, fits_passed, fits_all, check_passed, check_all}
use Rattle.model.proofs.Search.SearchInvariant.{Stopped, Emptied, Ends, stopped, emptied}
use Rattle.model.proofs.Search.SearchEnds.{search_ends}
use Rattle.model.proofs.Search.Lessons.{goal_halts}

-- The tests -----------------------------------------------------------------------------------------------------------------------

module _ (head : Head) (p : Lent) (s : Scratch) where
  pub plan_passed : plan_check head p s ≡ Ok tt → Held head p × Sized (cells_of head) s
  unfolding plan_check
  plan_passed e =
      let t = check_passed head p (scratch_buffers s ++ buffers_of p) (cells_named head) e in
      let f = fits_passed head.width head.height (scratch_buffers s ++ buffers_of p) (cells_named head) t.0 in
      let on = both_on head.width head.height head.goal head.cell f.2 in
      let a = or_false (too_short (cells_of head) s.mark) _ f.1 in
      let b = or_false (too_short (cells_of head) s.cost) _ a.1 in
      let c = or_false (too_short (cells_of head) s.trail) _ b.1 in (
        record {
          placed = place head.width head.height head.goal head.cell f.0 on.0 on.1;
          room = room_lent (cells_of head) p c.1;
          fit = sound_fit head p t.1;
        },
        record { marks = ltb-false _ _ a.0; costs = ltb-false _ _ b.0; trails = ltb-false _ _ c.0 },
      )

  pub pass_plan : Held head p → Sized (cells_of head) s → plan_check head p s ≡ Ok tt
  unfolding plan_check
  pass_plan a z =
      check_all head p (scratch_buffers s ++ buffers_of p) (cells_named head)
      (fits_all head.width head.height (scratch_buffers s ++ buffers_of p) (cells_named head) a.placed.sides room
      (on_both head.width head.height head.goal head.cell a.placed.goal_on a.placed.cart_on))
      (fit_sound head p a.fit)
    where
      room : any_short (cells_of head) (scratch_buffers s ++ buffers_of p) ≡ false
      room =
          rw (
            le-ltb (length s.mark) (cells_of head) z.marks,
            le-ltb (length s.cost) (cells_of head) z.costs,
            le-ltb (length s.trail) (cells_of head) z.trails,
          )
          (lent_room (cells_of head) p a.room)

-- The cases -----------------------------------------------------------------------------------------------------------------------

-- what plan answers and leaves
pub data Planning (head : Head) (p : Lent) (s : Scratch) : AfterPlan → Type 0 where
  plan_refused : {why : Reason} → plan_check head p s ≡ Err why
      → Planning head p s (record { answer = answered head 0 (Outcome.Refused why); lists = p; scratch = s })
  plan_there : Held head p → plan_check head p s ≡ Ok tt → head.cell ≡ head.goal
      → Planning head p s (record { answer = answered head 0 Outcome.Arrived; lists = p; scratch = s })
  plan_none : {t : Scratch} → Held head p → plan_check head p s ≡ Ok tt → head.cell ≢ head.goal
      → Emptied head.width head.height head.cell p (leads_from head.width head.height head.goal p) t
      → Planning head p s (lost head p t)
  plan_found : {c : ℕ} {t : Scratch} → Held head p → plan_check head p s ≡ Ok tt → head.cell ≢ head.goal
      → Stopped head.width head.height head.cell p (leads_from head.width head.height head.goal p) c t
      → Planning head p s (found head p c t)

module _ (head : Head) (p : Lent) (s : Scratch) where
  concluded_is : (e : Ended) → Held head p → plan_check head p s ≡ Ok tt → head.cell ≢ head.goal
      → Ends head.width head.height head.cell p (leads_from head.width head.height head.goal p) e
      → Planning head p s (concluded head p e)
  unfolding concluded
  concluded_is e a ok d (stopped x) = plan_found a ok d x
  concluded_is e a ok d (emptied x) = plan_none a ok d x

  pub plan_is : Planning head p s (planned head p s)
  unfolding planned searched
  plan_is = go _ refl
    where
      go : (v : Verdict) → plan_check head p s ≡ v → Planning head p s (elim v [
        | Ok _ ↦ elim (eqb head.cell head.goal) [
          | true ↦ record { answer = answered head 0 Outcome.Arrived; lists = p; scratch = s }
          | false ↦ concluded head p (searched head p s)
        ]
        | Err why ↦ record { answer = answered head 0 (Outcome.Refused why); lists = p; scratch = s }
      ])
      go (Ok _) e = on _ refl
        where
          a : Held head p × Sized (cells_of head) s
          a = plan_passed head p s e

          on : (b : Bool) → eqb head.cell head.goal ≡ b → Planning head p s (elim b [
            | true ↦ record { answer = answered head 0 Outcome.Arrived; lists = p; scratch = s }
            | false ↦ concluded head p (searched head p s)
          ])
          on true q = plan_there a.0 e (eqb-true _ _ q)
          on false q =
              concluded_is (searched head p s) a.0 e (eqb-false _ _ q)
              (search_ends p _ a.0.placed a.0.fit (goal_halts head.width head.height head.goal p) s a.1)
      go (Err why) e = plan_refused e
