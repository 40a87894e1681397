-- `replan::learn::relink` meets its contract: what is left of the walk back, from here over the links so far, lays the links of the whole
-- walk (`RelinkLaws`). Assumes nothing.
use Rattle.grid.proofs.CellLaws.{some_on, none_off}
use Rattle.replan.proofs.learn.RelinkLaws.{relinked_done, relinked_off, relinked_next}
use Prim.Native.Nat.{◌+◌, ◌-◌}
use native.Mathlib.Omega.{arith}
use mathlib.Core.Path.{◌≡◌, refl, sym, ◌∙◌}
use Rattle.replan.proofs.learn.relink.Goals as goal

pub returns-in_default : goal.returns-in_default
returns-in_default c =
    let off = none_off (rw c.opposite.ensures at c.in_default.ensures) in
    sym (relinked_off _ _ _ _ _ _ _ refl (omega (arith, c.args.plot.product, off))) ∙ c.loop.invariant.1

pub bounds-link-b : goal.bounds-link-b
bounds-link-b c = omega (arith, (some_on c.in-Some.ensures).inside)

pub loop-preserved : goal.loop-preserved
loop-preserved c =
    let on = some_on (rw c.opposite.ensures at c.in-Some.ensures) in
    let less : c.args.v - (c.loop.counter + 1) ≡ c.args.v - c.loop.counter - 1 = omega arith in (
      on.inside,
      rw less
          (relinked_next _ _ _ _ _ _ _ (λ e. omega (arith, e, c.loop-test.true)) on.same (omega (arith, c.args.plot.product, on.inside)) ∙ c.loop.invariant.1),
    )

pub returns : goal.returns
returns c = sym (relinked_done _ _ _ _ _ _ (omega arith)) ∙ c.loop.invariant.1
