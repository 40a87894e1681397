-- `grid::plot::Plot::leads` meets its contract. The invariant: what links say from here with what is left is what they said at
-- first. Assumes nothing.
use Rattle.model.specs.Route.{leads}
use lib.ListN.{get_or}
use Prim.Native.Nat.{◌<◌}
use mathlib.Core.Path.{◌≡◌}
use Rattle.grid.proofs.plot.Plot.leads.Given as goal

abbrev pub invariant-loop-at : goal.invariant-loop-at
invariant-loop-at l =
    (l.at < l.self.cells)
    × (leads l.self.width l.self.height l.goal l.learned l.link l.left l.at
    ≡ leads l.self.width l.self.height l.goal l.learned l.link (get_or l.learned l.c 0) l.c)

abbrev pub decreases-loop-at : goal.decreases-loop-at
decreases-loop-at l = l.left
