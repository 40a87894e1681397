-- One turn of the drive, a line of what it prints: "It sighted at the four neighbours (direction order) at the start and after each
-- move, and reports each blocked one not yet known; on the goal it ends; if no route stands it plans; then it moves."
use Rattle.std.specs.Prelude.{ℕ, ◌+◌, Bool, cond, ◌&&◌, List, get_or, ltb, eqb}
use Rattle.model.specs.Plot.{ahead, free}
use Rattle.model.specs.Lent.{Lent, Scratch}
use Rattle.model.specs.Head.{cells_of}
use Rattle.model.specs.Route.{stands}
use Rattle.model.specs.Report.{reported}
use Rattle.model.specs.Plan.{planned}
use Rattle.model.specs.Move.{moved}
use Rattle.model.specs.declared.Head.{Head}
use Rattle.model.specs.declared.Outcome.{Outcome}
use Rattle.printing.specs.declared.lines.Line.{Line}

-- the drive between two lines
pub record Drive : Type 0 where
  pub head : Head
  pub lent : Lent
  pub scratch : Scratch
  pub moves : ℕ

-- a line, and the drive after it
pub record Said : Type 0 where
  pub line : Line
  pub drive : Drive

abbrev pub says : Line → Drive → Said
says line k = record { line = line; drive = k }

-- the neighbour in direction d is blocked in truth, and not yet known to be
unfoldable pub unknown : Head → (truth ground : List ℕ) (d : ℕ) → Bool
unknown head truth ground d =
    let c = ahead head.width head.height head.cell d in
    ltb c (cells_of head) && (eqb (get_or truth c 0) 1 && free ground c)

-- it, or N
abbrev pub unknown_ahead : Head → (truth ground : List ℕ) (d : ℕ) → ℕ
unknown_ahead head truth ground d = cond (unknown head truth ground d) (ahead head.width head.height head.cell d) (cells_of head)

-- the first such neighbour in direction order, or N
unfoldable pub sighting : Head → (truth ground : List ℕ) → ℕ
sighting head truth ground =
    let beside = unknown_ahead head truth ground in
    let found = unknown head truth ground in
    cond (found 1) (beside 1) (cond (found 2) (beside 2) (cond (found 3) (beside 3) (beside 4)))

abbrev pub after_report : Drive → (c : ℕ) → Drive
after_report k c =
    let r = reported k.head k.lent c in
    record { head = r.answer.head; lent = r.lists; scratch = k.scratch; moves = k.moves }

abbrev pub after_move : Drive → Drive
after_move k =
    let r = moved k.head k.lent in
    record { head = r.answer.head; lent = r.lists; scratch = k.scratch; moves = k.moves + 1 }

abbrev pub after_plan : Drive → Drive
after_plan k =
    let r = planned k.head k.lent k.scratch in
    record { head = r.answer.head; lent = r.lists; scratch = r.scratch; moves = k.moves }

-- "`plan` length, expanded cells"; "Where there is no way the plan line is `no way E`". (A plan here is never refused, and never
-- on the goal.)
abbrev pub plan_line : Outcome → (expanded : ℕ) → Line
plan_line (Outcome.Route length) expanded = Line.Plan length expanded
plan_line Outcome.NoWay expanded = Line.NoWay expanded
plan_line Outcome.Arrived expanded = Line.NoWay expanded
plan_line (Outcome.Refused why) expanded = Line.NoWay expanded

unfoldable pub turn : (truth : List ℕ) → Drive → Said
turn truth k =
    let c = sighting k.head truth k.lent.ground in
    let answer = (planned k.head k.lent k.scratch).answer in
    cond (ltb c (cells_of k.head)) (says (Line.Blocked c) (after_report k c))
    (cond (eqb k.head.cell k.head.goal) (says (Line.Arrived k.moves) k)
    (cond (stands k.head k.lent) (says (Line.Move (after_move k).head.cell) (after_move k))
    (says (plan_line answer.outcome answer.expanded) (after_plan k))))

abbrev pub drive_with : Head → Lent → Scratch → (moves : ℕ) → Drive
drive_with head p s moves = record { head = head; lent = p; scratch = s; moves = moves }
