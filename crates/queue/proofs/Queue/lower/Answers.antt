-- `queue::Queue::lower` meets its contract: the gap is the cell's own place. Assumes nothing.
use lib.ListN.{get_or}
use Prim.Native.Nat.{ℕ}
use mathlib.Core.Path.{ap}
use Rattle.queue.proofs.QueueChanges.{lower_rising, lowered}
use Rattle.queue.proofs.Queue.lower.Goals as goal

pub rise-requires : goal.rise-requires
rise-requires c =
    lower_rising _ (ap (λ (x : ℕ). get_or c.args.self.now.place.now x 0) c.cell_of.ensures)
    c.requires

pub returns-clause-keys : goal.returns-clause-keys
returns-clause-keys c =
    lowered _ (ap (λ (x : ℕ). get_or c.args.self.now.place.now x 0) c.cell_of.ensures) c.requires
    c.rise.ensures
