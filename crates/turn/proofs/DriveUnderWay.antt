-- A drive that is under way: its data are in order, and the moves that it made and what is left to do are bounded together, so that
-- its moves can be counted. Assumes nothing.
use Rattle.std.specs.Prelude.{Ok}
use mathlib.Core.Path.{◌≡◌}
use mathlib.Core.Bool.{Bool, true, false, cond}
use mathlib.Core.List.{List}
use Prim.Native.Nat.{ℕ, ◌+◌, ◌*◌, ◌≤◌}
use native.Mathlib.Nat.{mul-le-mul}
use native.Mathlib.Omega.{arith}
use lib.Dec.{ltb, eqb}
use Rattle.model.specs.Plot.{max_cells}
use Rattle.model.specs.Lists.{tally}
use Rattle.model.specs.Lent.{Lent, Scratch}
use Rattle.model.specs.Head.{cells_of}
use Rattle.model.specs.Route.{stands}
use Rattle.model.specs.Plan.{planned, plan_check}
use Rattle.model.specs.declared.Head.{Head}
use Rattle.model.proofs.Lists.Filled.{tally_le}
use Rattle.model.proofs.Calls.Acceptance.{cells_few}
use Rattle.model.proofs.Calls.PlanCases.{plan_passed, pass_plan}
use Rattle.search.specs.Workspace.{Workspace}
use Rattle.search.proofs.WorkspaceRoom.{room_fewer}
use Rattle.replan.specs.Passed.{Planable}
use Rattle.printing.specs.declared.lines.Line.{Line}
use Rattle.printing.specs.Lines.{is_last}
use Rattle.turn.specs.Turn.{Drive, says, after_report, after_move, after_plan, plan_line, drive_with, turn}
use Rattle.turn.proofs.EveryDriveEnds.{hidden, sighted, left_to_do, InOrder, to_go_most, turn_falls}

-- more than a drive on the largest plot has to do: a report for each of N cells, each worth N + 1, and N lines more (N = max_cells)
abbrev pub most : ℕ
most = max_cells * (max_cells + 1) + max_cells

pub record UnderWay (truth : List ℕ) (k : Drive) : Type 0 where
  pub in_order : InOrder k
  pub bound : k.moves + left_to_do truth k ≤ most

few : (k : Drive) → InOrder k → cells_of k.head ≤ max_cells
few k o = cells_few k.head.width k.head.height o.held.placed.sides

pub going_begin : (truth : List ℕ) (k : Drive) → InOrder k → k.moves ≡ 0 → UnderWay truth k
going_begin truth k o e =
    let n = few k o in
    let u = tally_le (cells_of k.head) (hidden truth k.lent.ground) in
    let left : tally (cells_of k.head) (hidden truth k.lent.ground) ≤ max_cells = omega (arith, u, n) in
    let each : cells_of k.head + 1 ≤ max_cells + 1 = omega (arith, n) in
    record { in_order = o; bound = omega (arith, e, n, mul-le-mul left each, to_go_most k o) }

-- a line counts one move at most
turn_moves : (truth : List ℕ) (k : Drive) → (turn truth k).drive.moves ≤ k.moves + 1
unfolding turn
turn_moves truth k = go (ltb (sighted truth k) (cells_of k.head)) (eqb k.head.cell k.head.goal) (stands k.head k.lent)
  where
    go : (a b c : Bool)
        → (cond a (says (Line.Blocked (sighted truth k)) (after_report k (sighted truth k)))
        (cond b (says (Line.Arrived k.moves) k)
        (cond c (says (Line.Move (after_move k).head.cell) (after_move k))
        (says (plan_line (planned k.head k.lent k.scratch).answer.outcome (planned k.head k.lent k.scratch).answer.expanded)
        (after_plan k))))).drive.moves ≤ k.moves + 1
    go true b c = omega arith
    go false true c = omega arith
    go false false true = omega arith
    go false false false = omega arith

pub going_on : (truth : List ℕ) (k : Drive) → UnderWay truth k → is_last (turn truth k).line ≡ false → UnderWay truth (turn truth k).drive
going_on truth k g e =
    let l = turn_falls truth k g.in_order e in
    record { in_order = l.in_order; bound = omega (arith, g.bound, l.falls, turn_moves truth k) }

-- Over lent lists -----------------------------------------------------------------------------------------------------------------------

module _ {truth : List ℕ} (head : Head) (p : Lent) (s : Scratch) (moves : ℕ) where
  pub going_planable : {heap place gone list : List ℕ} → UnderWay truth (drive_with head p s moves) → Workspace (cells_of head) heap place gone list
      → Planable head p s heap place gone list
  going_planable g r = record { passed = record { accepted = pass_plan head p s g.in_order.held g.in_order.sized }; space = r }

  -- a working space with room for any plot
  pub going_room : {heap place gone list : List ℕ} → UnderWay truth (drive_with head p s moves) → Workspace max_cells heap place gone list
      → Workspace (cells_of head) heap place gone list
  going_room g r = room_fewer (few (drive_with head p s moves) g.in_order) r

pub going_first : (truth : List ℕ) (head : Head) (p : Lent) (s : Scratch) {moves : ℕ} → plan_check head p s ≡ Ok tt → moves ≡ 0
    → UnderWay truth (drive_with head p s moves)
going_first truth head p s {moves} e z =
    let a = plan_passed head p s e in
    going_begin truth (drive_with head p s moves) (record { held = a.0; sized = a.1 }) z
