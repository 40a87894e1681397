-- `checks::sound::every` meets its contract: the flag is the test over the numbers passed. Assumes nothing.
use Rattle.model.proofs.Lists.Scans.{every_none, every_more}
use Rattle.checks.proofs.sound.every.Goals as goal

pub loop-i-init : goal.loop-i-init
loop-i-init g c = λ t a. every_none t

pub loop-i-preserved : goal.loop-i-preserved
loop-i-preserved g c = λ t a. every_more t _ _ _ (c.loop-i.invariant t a) (a _ c.loop-i-test.true _ c.test-ok.ensures)
