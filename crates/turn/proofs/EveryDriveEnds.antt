-- EVERY DRIVE ENDS: each line leaves less to do. Reports use up cells that are blocked and not known to be; between two of them
-- a plan makes a route stand, and each move lowers the steps to go. Assumes nothing.
use Rattle.std.specs.Prelude.{Ok}
use mathlib.Core.Path.{◌≡◌, refl, sym, ◌∙◌}
use mathlib.Core.Logic.{◌≢◌}
use mathlib.Core.Bool.{Bool, true, false, cond, ◌&&◌, false≢true}
use mathlib.Core.List.{List}
use Prim.Native.Nat.{ℕ, ◌+◌, ◌*◌, ◌≤◌, ◌<◌}
use native.Mathlib.Nat.{mod-le, add-mul}
use native.Mathlib.Omega.{arith}
use borrow.Author.Tests.{ltb-true, eqb-false}
use lib.Dec.{ltb, eqb}
use lib.ListN.{get_or}
use Rattle.model.specs.Lists.{tally}
use Rattle.model.specs.Plot.{ahead, free}
use Rattle.model.specs.Lent.{Lent, Scratch, After}
use Rattle.model.specs.Head.{cells_of}
use Rattle.model.specs.Route.{stands}
use Rattle.model.specs.Report.{report_check, reported}
use Rattle.model.specs.Plan.{AfterPlan, planned}
use Rattle.model.specs.declared.Head.{Head}
use Rattle.model.specs.declared.Moved.{Moved}
use Rattle.model.specs.declared.Outcome.{Outcome}
use Rattle.model.proofs.Lists.Bools.{and_left, and_right, and_false}
use Rattle.model.proofs.Lists.Filled.{tally_more}
use Rattle.model.proofs.Grid.Geometry.{Stepped, right, down, left, up, ahead_is}
use Rattle.model.specs.Fit.{Held, Sized}
use Rattle.model.proofs.Calls.Acceptance.{not_both, held_accepts}
use Rattle.model.proofs.Calls.ReportLaws.{pass_report}
use Rattle.model.proofs.Calls.ReportsCommute.{Blocks, report_keeps}
use Rattle.model.proofs.Calls.PlanCases.{Planning, plan_refused, plan_there, plan_none, plan_found, plan_is}
use Rattle.model.proofs.Calls.PlanKeeps.{plan_keeps, route_stands_after}
use Rattle.model.proofs.Calls.MoveLaws.{Moving, move_refused, move_there, move_lost, move_went, move_is, next_lower, moved_held, moved_stands}
use Rattle.printing.specs.Lines.{is_last}
use Rattle.turn.specs.Turn.{Drive, says, unknown, sighting, after_report, after_move, after_plan, plan_line, turn}
use Rattle.printing.specs.declared.lines.Line.{Line}

-- What is left to do ------------------------------------------------------------------------------------------------------------------

-- cells that are blocked in truth and not known to be
abbrev pub hidden : (truth ground : List ℕ) (c : ℕ) → Bool
hidden truth ground c = eqb (get_or truth c 0) 1 && free ground c

abbrev to_learn : (truth : List ℕ) → Drive → ℕ
to_learn truth k = tally (cells_of k.head) (hidden truth k.lent.ground)

-- the steps to go where a route stands, and more than any where none does
abbrev pub to_go : Drive → ℕ
to_go k = cond (stands k.head k.lent) (get_or k.lent.learned k.head.cell 0) (cells_of k.head)

abbrev pub left_to_do : (truth : List ℕ) → Drive → ℕ
left_to_do truth k = to_learn truth k * (cells_of k.head + 1) + to_go k

-- the drive's data are accepted, and there is room to plan
pub record InOrder (k : Drive) : Type 0 where
  pub held : Held k.head k.lent
  pub sized : Sized (cells_of k.head) k.scratch

pub to_go_most : (k : Drive) → InOrder k → to_go k ≤ cells_of k.head
to_go_most k o = go (stands k.head k.lent)
  where
    go : (b : Bool) → cond b (get_or k.lent.learned k.head.cell 0) (cells_of k.head) ≤ cells_of k.head
    go true = omega (arith, o.held.fit.learned k.head.cell o.held.placed.cart_on)
    go false = omega arith

-- a line more, and less to do
pub record Less (truth : List ℕ) (k next : Drive) : Type 0 where
  pub in_order : InOrder next
  pub falls : left_to_do truth next < left_to_do truth k

-- A report ----------------------------------------------------------------------------------------------------------------------------

-- no step stays where it is
steps_away : {w h c d y : ℕ} → 0 < w → Stepped w h c d y → y ≢ c
steps_away w (right e) = omega arith
steps_away w (down e) = omega arith
steps_away {w = n} {c = c} w (left e) = omega (arith, mod-le c n)
steps_away w (up e) = omega arith

-- the neighbour that is sighted is hidden, and is not the cart's cell
pub record Sees (truth : List ℕ) (k : Drive) (c : ℕ) : Type 0 where
  pub hid : hidden truth k.lent.ground c ≡ true
  pub away : c ≢ k.head.cell

abbrev pub sighted : (truth : List ℕ) → Drive → ℕ
sighted truth k = sighting k.head truth k.lent.ground

pub sees : (truth : List ℕ) (k : Drive) → InOrder k → sighted truth k < cells_of k.head → Sees truth k (sighted truth k)
unfolding sighting unknown
sees truth k o = go _ _ _ _ refl refl refl refl
  where
    found : ℕ → Bool
    found d = unknown k.head truth k.lent.ground d

    beside : ℕ → ℕ
    beside d = ahead k.head.width k.head.height k.head.cell d

    one : (d : ℕ) → found d ≡ true → Sees truth k (beside d)
    one d e =
        let i = ltb-true (beside d) (cells_of k.head) (and_left (ltb (beside d) (cells_of k.head)) _ e) in
        record {
          hid = and_right (ltb (beside d) (cells_of k.head)) _ e;
          away = steps_away o.held.placed.wide (ahead_is k.head.width k.head.height k.head.cell d i);
        }

    go : (a b c d : Bool) → found 1 ≡ a → found 2 ≡ b → found 3 ≡ c → found 4 ≡ d
        → let n = cells_of k.head in
        let s = cond a (cond a (beside 1) n) (cond b (cond b (beside 2) n) (cond c (cond c (beside 3) n) (cond d (beside 4) n))) in
        s < cells_of k.head → Sees truth k s
    go true b c d e f g h i = one 1 e
    go false true c d e f g h i = one 2 f
    go false false true d e f g h i = one 3 g
    go false false false true e f g h i = one 4 h
    go false false false false e f g h i = absurd (omega arith)

-- less is hidden once the sighted cell is reported: N + 1 for it, and no more than N to go
module _ (truth : List ℕ) (k : Drive) (o : InOrder k) (c : ℕ) (i : c < cells_of k.head) (s : Sees truth k c) where
  accepted : report_check k.head k.lent c ≡ Ok tt
  accepted = pass_report k.head k.lent c o.held i s.away

  taken : (reported k.head k.lent c).answer.verdict ≡ Ok tt
  unfolding reported
  taken = rw (reported, accepted)

  blocks : Blocks k.lent (reported k.head k.lent c).lists c
  blocks = (report_keeps k.head k.lent c).taken taken

  hidden_less : tally (cells_of k.head) (hidden truth k.lent.ground)
      ≡ tally (cells_of k.head) (hidden truth (reported k.head k.lent c).lists.ground) + 1
  hidden_less =
      tally_more (cells_of k.head) (hidden truth (reported k.head k.lent c).lists.ground) (hidden truth k.lent.ground) c i
      (rw blocks.here (and_false (eqb (get_or truth c 0) 1)))
      s.hid
      (λ x _ n e. rw (← blocks.elsewhere x n) e)
      (λ x _ n e. rw (blocks.elsewhere x n) e)

  report_less : Less truth k (after_report k c)
  report_less =
      let t = report_keeps k.head k.lent c in
      let n = cells_of k.head in
      let order : InOrder (after_report k c) = record { held = rw t.same_head (t.held o.held); sized = rw t.same_head o.sized } in
      let u = tally n (hidden truth (reported k.head k.lent c).lists.ground) in
      let most = rw t.same_head at (to_go_most (after_report k c) order) in
      let product : (u + 1) * (n + 1) ≡ u * (n + 1) + 1 * (n + 1) = add-mul u 1 (n + 1) in
      record {
        in_order = order;
        falls = rw (hidden_less, t.same_head) (omega (arith, product, most));
      }

-- A plan and a move ---------------------------------------------------------------------------------------------------------------------

-- a plan leaves what is hidden, and makes a route stand
module _ (truth : List ℕ) (k : Drive) (o : InOrder k) (d : stands k.head k.lent ≡ false) (L : ℕ)
    (e : (planned k.head k.lent k.scratch).answer.outcome ≡ Outcome.Route L) where
  plan_less : InOrder (after_plan k) → Less truth k (after_plan k)
  plan_less order =
      let t = plan_keeps k.head k.lent k.scratch in
      let s = route_stands_after k.head k.lent k.scratch L e in
      let low = rw t.same_head at (order.held.fit.learned k.head.cell (rw t.same_head o.held.placed.cart_on)) in
      record { in_order = order; falls = rw (t.same_head, t.same_ground, d, s.0) (omega (arith, low)) }

-- a move leaves what is hidden, and lowers the steps to go
module _ (truth : List ℕ) (k : Drive) (o : InOrder k) (d : k.head.cell ≢ k.head.goal) (s : stands k.head k.lent ≡ true) where
  move_less : Less truth k (after_move k)
  move_less = go (move_is k.head k.lent)
    where
      go : {r : After Moved} → Moving k.head k.lent r
          → Less truth k (record { head = r.answer.head; lent = r.lists; scratch = k.scratch; moves = k.moves + 1 })
      go (move_refused e) = absurd (not_both e (held_accepts k.head k.lent o.held))
      go (move_there a e) = absurd (d e)
      go (move_lost a _ t) = absurd (false≢true (sym t ∙ s))
      go (move_went a _ t) = record {
        in_order = record { held = moved_held k.head k.lent a d t; sized = o.sized };
        falls = rw (s, moved_stands k.head k.lent a d t) (omega (arith, next_lower k.head k.lent a d t));
      }

-- THE TURN ------------------------------------------------------------------------------------------------------------------------------

plan_sized : {head : Head} {p : Lent} {s : Scratch} {r : AfterPlan} → Planning head p s r → Sized (cells_of head) s → Sized (cells_of head) r.scratch
plan_sized (plan_refused e) z = z
plan_sized (plan_there a ok e) z = z
plan_sized (plan_none a ok d x) z = x.sized
plan_sized (plan_found a ok d x) z = x.sized

plan_order : (k : Drive) → InOrder k → InOrder (after_plan k)
plan_order k o =
    let t = plan_keeps k.head k.lent k.scratch in
    record {
      held = rw t.same_head (t.held o.held);
      sized = rw t.same_head (plan_sized (plan_is k.head k.lent k.scratch) o.sized);
    }

-- A DRIVE IN ORDER STAYS IN ORDER, and each line that is not its last leaves less to do.
pub turn_falls : (truth : List ℕ) (k : Drive) → InOrder k → is_last (turn truth k).line ≡ false → Less truth k (turn truth k).drive
unfolding turn
turn_falls truth k o = go _ _ _ refl refl refl
  where
    routed : stands k.head k.lent ≡ false → (out : Outcome) → (planned k.head k.lent k.scratch).answer.outcome ≡ out → (e : ℕ)
        → is_last (plan_line out e) ≡ false → Less truth k (after_plan k)
    routed d (Outcome.Route L) q e f = plan_less truth k o d L q (plan_order k o)
    routed d Outcome.NoWay q e f = absurd (false≢true (sym f))
    routed d Outcome.Arrived q e f = absurd (false≢true (sym f))
    routed d (Outcome.Refused why) q e f = absurd (false≢true (sym f))

    go : (a b c : Bool) → ltb (sighted truth k) (cells_of k.head) ≡ a → eqb k.head.cell k.head.goal ≡ b → stands k.head k.lent ≡ c
        → let s = cond a (says (Line.Blocked (sighted truth k)) (after_report k (sighted truth k)))
        (cond b (says (Line.Arrived k.moves) k)
        (cond c (says (Line.Move (after_move k).head.cell) (after_move k))
        (says (plan_line (planned k.head k.lent k.scratch).answer.outcome (planned k.head k.lent k.scratch).answer.expanded)
        (after_plan k)))) in
        is_last s.line ≡ false → Less truth k s.drive
    go true b c e f g q = let i = ltb-true (sighted truth k) (cells_of k.head) e in report_less truth k o (sighted truth k) i (sees truth k o i)
    go false true c e f g q = absurd (false≢true (sym q))
    go false false true e f g q = move_less truth k o (eqb-false k.head.cell k.head.goal f) g
    go false false false e f g q = routed g _ refl _ q
