-- `turn::Drive::turn` meets its contract: a report, the end, a move or a plan (`TurnCases`). Assumes nothing.
use Rattle.turn.proofs.TurnCases.{may_move, may_sight, may_block, turn_blocks, turn_arrives, turn_moves, same_cells, unmoved, turn_plans}
use Rattle.model.specs.Lent.{Lent}
use mathlib.Core.Path.{sym, ap, ◌∙◌}
use Rattle.turn.proofs.Drive.turn.Goals as goal

pub sighting-requires : goal.sighting-requires
sighting-requires c = may_sight c.requires.planable.passed c.args.truth.now c.args.self.now.moves c.requires.truth

pub block-requires : goal.block-requires
block-requires c = may_block c.requires.planable.passed c.args.truth.now c.args.self.now.moves c.in-Some.ensures

pub returns-in-Some-clause-line : goal.returns-in-Some-clause-line
returns-in-Some-clause-line c = turn_blocks c.requires.planable.passed c.args.truth.now c.args.self.now.moves c.in-Some.ensures c.block.ensures

pub returns-then-head-clause-line : goal.returns-then-head-clause-line
returns-then-head-clause-line c =
    turn_arrives c.requires.planable.passed c.args.truth.now c.args.self.now.moves c.in_default.ensures c.if-head.true

pub onward-moved-requires : goal.onward-moved-requires
onward-moved-requires c = may_move c.requires.planable.passed c.args.truth.now c.args.self.now.moves

pub returns-then-is_ok-clause-line : goal.returns-then-is_ok-clause-line
returns-then-is_ok-clause-line c =
    turn_moves c.requires.planable.passed c.args.truth.now c.args.self.now.moves c.in_default.ensures c.if-head.false c.onward-moved.ensures
    (sym c.is_ok.ensures.value ∙ c.if-is_ok.true)

pub returns-then-is_ok-clause-room : goal.returns-then-is_ok-clause-room
returns-then-is_ok-clause-room c =
    rw (same_cells c.requires.planable.passed c.args.truth.now c.args.self.now.moves c.in_default.ensures c.if-head.false c.onward-moved.ensures) at
    c.requires.planable.space

pub replan_with-planned-requires : goal.replan_with-planned-requires
replan_with-planned-requires c =
    rw (ap (λ (l : Lent). l.link)
    (unmoved c.requires.planable.passed c.args.truth.now c.args.self.now.moves c.in_default.ensures c.if-head.false c.onward-moved.ensures
    (sym c.is_ok.ensures.value ∙ c.if-is_ok.false))) c.requires.planable

pub returns-clause-line : goal.returns-clause-line
returns-clause-line c =
    let lost = sym c.is_ok.ensures.value ∙ c.if-is_ok.false in
    turn_plans c.requires.planable.passed c.args.truth.now c.args.self.now.moves c.in_default.ensures c.if-head.false c.onward-moved.ensures lost
    (rw (ap (λ (l : Lent). l.link)
    (unmoved c.requires.planable.passed c.args.truth.now c.args.self.now.moves c.in_default.ensures c.if-head.false c.onward-moved.ensures lost))
    at c.replan_with-planned.ensures.plan) c.plan_line.ensures
