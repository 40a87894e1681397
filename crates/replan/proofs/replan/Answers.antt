-- `replan::replan` meets its contract. Assumes nothing.
use Rattle.replan.proofs.ReplanCases.{roomy}
use Rattle.replan.proofs.replan.Goals as goal

pub replan_with-requires : goal.replan_with-requires
replan_with-requires c = roomy c.requires
