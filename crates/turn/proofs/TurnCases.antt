-- A turn, case by case: what the look, the goal, a move and a plan say of it.
-- Assumes nothing.
use Rattle.std.specs.Prelude.{Ok, Some, None, is_ok}
use mathlib.Core.Path.{◌≡◌, refl, sym, ap, ◌∙◌}
use mathlib.Core.Logic.{◌≢◌}
use mathlib.Core.Bool.{true, false, false≢true}
use mathlib.Core.List.{List}
use Prim.Native.Nat.{ℕ, ◌+◌, ◌≤◌, ◌<◌}
use borrow.Author.Tests.{lt-ltb, le-ltb, eq-eqb, ne_eqb}
use lib.Dec.{ltb}
use lib.ListN.{length}
use Rattle.model.specs.Lent.{Lent, Scratch, After, after}
use Rattle.model.specs.Head.{cells_of}
use Rattle.model.specs.Route.{stands}
use Rattle.model.specs.Report.{report_check, reported}
use Rattle.model.specs.Plan.{AfterPlan, planned}
use Rattle.model.specs.Plan as Plan
use Rattle.model.specs.Move.{moved}
use Rattle.model.specs.Ways.{Accepts}
use Rattle.model.specs.declared.Head.{Head}
use Rattle.model.specs.declared.Changed.{Changed}
use Rattle.model.specs.declared.Planned.{Planned}
use Rattle.model.specs.declared.Moved.{Moved}
use Rattle.model.specs.Fit.{Held}
use Rattle.model.proofs.Calls.Acceptance.{not_both, held_accepts}
use Rattle.model.proofs.Calls.PlanCases.{plan_passed}
use Rattle.model.proofs.Calls.ReportLaws.{pass_report}
use Rattle.model.proofs.Calls.ReportsCommute.{report_keeps}
use Rattle.model.proofs.Calls.PlanKeeps.{plan_keeps}
use Rattle.model.proofs.Calls.MoveLaws.{Moving, move_refused, move_there, move_lost, move_went, move_is}
use Rattle.grid.specs.CellOn.{cell_on}
use Rattle.grid.proofs.CellLaws.{some_on, none_off}
use Rattle.replan.specs.Passed.{Passed}
use Rattle.turn.specs.Turn.{Drive, says, sighting, plan_line, turn, drive_with}
use Rattle.turn.specs.Sighting.{InSight}
use Rattle.printing.specs.declared.lines.Line.{Line}
use Rattle.turn.proofs.EveryDriveEnds.{InOrder, sees}

module _ {head : Head} {p : Lent} {s : Scratch} (passed : Passed head p s) (truth : List ℕ) (moves : ℕ) where
  drive : Drive
  drive = drive_with head p s moves

  in_order : InOrder (drive_with head p s moves)
  in_order = let t = plan_passed head p s passed.accepted in record { held = t.0; sized = t.1 }

  held : Held head p
  held = in_order.held

  pub may_move : Accepts head p
  may_move = held_accepts head p held

  pub may_sight : cells_of head ≤ length truth → InSight head truth p.ground
  may_sight l = record { sides = held.placed.sides; cart_on = held.placed.cart_on; truths = l; grounds = held.room.grounds }

  -- a neighbour is reported
  module _ {c : ℕ} (e : Some c ≡ cell_on (cells_of head) (sighting head truth p.ground)) where
    same : c ≡ sighting head truth p.ground
    same = (some_on e).same

    seen_below : sighting head truth p.ground < cells_of head
    seen_below = rw (← same) (some_on e).inside

    pub may_block : report_check head p c ≡ Ok tt
    may_block =
        rw same (pass_report head p (sighting head truth p.ground) held seen_below
        (sees truth (drive_with head p s moves) in_order seen_below).away)

    pub turn_blocks : {r : Changed} {q : Lent} → after r q ≡ reported head p c → says (Line.Blocked c) (drive_with head q s moves)
        ≡ turn truth (drive_with head p s moves)
    unfolding turn
    turn_blocks {r} {q} d =
        let t = report_keeps head p c in
        rw (turn, lt-ltb (sighting head truth p.ground) (cells_of head) seen_below, ← same, t.same_head)
        (ap (λ (l : Lent). says (Line.Blocked c) (drive_with head l s moves)) (ap (λ (a : After Changed). a.lists) d))

  -- none is
  module _ (e : None ≡ cell_on (cells_of head) (sighting head truth p.ground)) where
    none_seen : ltb (sighting head truth p.ground) (cells_of head) ≡ false
    none_seen = le-ltb (sighting head truth p.ground) (cells_of head) (none_off e)

    pub turn_arrives : head.cell ≡ head.goal → says (Line.Arrived moves) (drive_with head p s moves) ≡ turn truth (drive_with head p s moves)
    unfolding turn
    turn_arrives g = rw (turn, none_seen, eq-eqb head.cell head.goal g)

    module _ (d : head.cell ≢ head.goal) where
      -- what move's step says of the route
      moving : {a : After Moved} → Moving head p a → is_ok a.answer.step ≡ true → stands head p ≡ true
      moving (move_refused _) q = absurd (false≢true q)
      moving (move_there _ t) q = absurd (d t)
      moving (move_lost _ _ _) q = absurd (false≢true q)
      moving (move_went _ _ t) q = t

      staying : {a : After Moved} → Moving head p a → is_ok a.answer.step ≡ false → (stands head p ≡ false) × (a.lists ≡ p)
      staying (move_refused e) q = absurd (not_both e (held_accepts head p held))
      staying (move_there _ _) q = absurd (false≢true (sym q))
      staying (move_lost _ _ t) q = (t, refl)
      staying (move_went _ _ _) q = absurd (false≢true (sym q))

      module _ {r : Moved} {q : Lent} (f : after r q ≡ moved head p) where
        told : is_ok r.step ≡ is_ok (moved head p).answer.step
        told = ap (λ (a : After Moved). is_ok a.answer.step) f

        pub same_cells : cells_of head ≡ cells_of r.head
        same_cells = go (move_is head p) ∙ ap (λ (a : After Moved). cells_of a.answer.head) (sym f)
          where
            go : {a : After Moved} → Moving head p a → cells_of head ≡ cells_of a.answer.head
            go (move_refused _) = refl
            go (move_there _ _) = refl
            go (move_lost _ _ _) = refl
            go (move_went _ _ _) = refl

        pub turn_moves : is_ok r.step ≡ true → says (Line.Move r.head.cell) (drive_with r.head q s (moves + 1))
            ≡ turn truth (drive_with head p s moves)
        unfolding turn
        turn_moves t =
            rw (turn, none_seen, ne_eqb head.cell head.goal d, moving (move_is head p) (sym told ∙ t))
            (ap (λ (a : After Moved). says (Line.Move a.answer.head.cell) (drive_with a.answer.head a.lists s (moves + 1))) f)

        pub unmoved : is_ok r.step ≡ false → q ≡ p
        unmoved t = ap (λ (a : After Moved). a.lists) f ∙ (staying (move_is head p) (sym told ∙ t)).1

        pub turn_plans : {done : Planned} {lists : Lent} {scratch : Scratch} {line : Line} → is_ok r.step ≡ false
            → Plan.after_plan done lists scratch ≡ planned head p s
            → line ≡ plan_line done.outcome done.expanded → says line (drive_with head lists scratch moves)
            ≡ turn truth (drive_with head p s moves)
        unfolding turn
        turn_plans t h l =
            rw (turn, none_seen, ne_eqb head.cell head.goal d, (staying (move_is head p) (sym told ∙ t)).0, l, (plan_keeps head p s).same_head)
            (ap (λ (a : AfterPlan). says (plan_line a.answer.outcome a.answer.expanded) (drive_with head a.lists a.scratch moves)) h)
