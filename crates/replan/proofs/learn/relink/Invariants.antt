-- `replan::learn::relink` meets its contract: what is left of the walk back, from here over the links so far, lays the links of the whole
-- walk (`RelinkLaws`). Assumes nothing.
use Rattle.model.specs.Plan.{relinked}
use Prim.Native.Nat.{◌-◌, ◌<◌}
use mathlib.Core.Path.{◌≡◌}
use Rattle.replan.proofs.learn.relink.Given as goal

abbrev pub invariant-loop : goal.invariant-loop
invariant-loop l =
    (l.at < l.plot.cells)
    × (relinked l.plot.width l.plot.height l.trail (l.v - l.counter) l.at l.link ≡ relinked l.plot.width l.plot.height l.trail l.v l.c l.initial.link)
