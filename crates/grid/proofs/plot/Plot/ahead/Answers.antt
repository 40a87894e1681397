-- `grid::plot::Plot::ahead` meets its contract: each arm is one law of the step. Assumes nothing.
use Rattle.model.proofs.Grid.Geometry.Stepped.{right, down, left, up}
use Rattle.grid.proofs.StepLaws.{step_on, none_right, none_down, none_left, none_up, none_other}
use native.Mathlib.Omega.{arith}
use Rattle.grid.proofs.plot.Plot.ahead.Goals as goal

pub returns-in-1 : goal.returns-in-1
returns-in-1 c = rw c.in-1.is (step_on c.args.self _ c.requires.0 (right (omega arith)))

pub returns-in-2 : goal.returns-in-2
returns-in-2 c = rw c.in-2.is (step_on c.args.self _ c.requires.0 (down (omega arith)))

pub returns-in-3 : goal.returns-in-3
returns-in-3 c = rw c.in-3.is (step_on c.args.self _ c.requires.0 (left (omega arith)))

pub returns-in-4 : goal.returns-in-4
returns-in-4 c = rw c.in-4.is (step_on c.args.self _ c.requires.0 (up (omega arith)))

pub returns-in_default : goal.returns-in_default
returns-in_default c = rw c.in-1.is (none_right c.args.self _ (omega arith))

pub returns-in_default-2 : goal.returns-in_default-2
returns-in_default-2 c = rw c.in-2.is (none_down c.args.self _ (omega arith))

pub returns-in_default-3 : goal.returns-in_default-3
returns-in_default-3 c = rw c.in-3.is (none_left c.args.self _ (omega arith))

pub returns-in_default-4 : goal.returns-in_default-4
returns-in_default-4 c = rw c.in-4.is (none_up c.args.self _ (omega arith))

pub returns-in_default-5 : goal.returns-in_default-5
returns-in_default-5 c = none_other c.args.self _ _ (λ q. omega arith) (λ q. omega arith) (λ q. omega arith) (λ q. omega arith)
