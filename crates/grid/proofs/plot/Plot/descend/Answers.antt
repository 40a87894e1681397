-- `grid::plot::Plot::descend` meets its contract: each way out is one law of the step. Assumes nothing.
use Rattle.grid.proofs.CellLaws.{some_on}
use Rattle.grid.proofs.LinkWalk.{descend_spent, descend_off, descend_apart, descend_there}
use native.Mathlib.Omega.{arith}
use Rattle.grid.proofs.plot.Plot.descend.Goals as goal

pub returns-in_err-fewer : goal.returns-in_err-fewer
returns-in_err-fewer c =
    rw c.from_residual.ensures (descend_spent c.args.self _ _ _ _ (omega (arith, c.in_err-fewer.ensures)))

pub returns-in_err-next : goal.returns-in_err-next
returns-in_err-next c =
    rw c.from_residual-in_err-next.ensures (descend_off c.args.self _ _ _ _ c.in_err-next.ensures)

pub offset_bounds-learned-next : goal.offset_bounds-learned-next
offset_bounds-learned-next c = omega (arith, (some_on c.in_ok-next.ensures).inside, c.args.self.few)

pub bounds-learned-next : goal.bounds-learned-next
bounds-learned-next c = omega (arith, (some_on c.in_ok-next.ensures).inside, c.args.self.product, c.requires.learneds)

pub returns-then-learned-next : goal.returns-then-learned-next
returns-then-learned-next c =
    descend_apart c.args.self _ _ _ _ _ c.in_ok-next.ensures (λ q. omega (arith, q, c.in_ok-fewer.ensures, c.if-learned-next.true))

pub returns : goal.returns
returns c =
    descend_there c.args.self _ _ _ _ _ (omega (arith, c.in_ok-fewer.ensures)) c.in_ok-next.ensures
    (omega (arith, c.in_ok-fewer.ensures, c.if-learned-next.false))
