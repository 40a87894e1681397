-- `checks::sound::mark_ends` meets its contract: the rows before this one are marked. Assumes nothing.
use Rattle.checks.specs.Flat.{EndsMarked}
use Rattle.checks.proofs.sound.mark_ends.Given as goal

abbrev pub invariant-loop-row : goal.invariant-loop-row
invariant-loop-row l = EndsMarked l.w l.row l.end
