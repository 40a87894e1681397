-- What the passes are given, from what the soundness test is given.
-- Assumes nothing.
use mathlib.Core.Path.{◌≡◌}
use mathlib.Core.List.{List}
use Prim.Native.Nat.{ℕ, ◌-◌, ◌≤◌, ◌<◌}
use native.Mathlib.Omega.{arith}
use lib.ListN.{length, get_or, replicate, length-replicate}
use Rattle.model.specs.Plot.{max_cells}
use Rattle.model.specs.Head.{cells_of}
use Rattle.model.specs.declared.Head.{Head}
use Rattle.checks.specs.Given.{Given}
use Rattle.checks.specs.Flat.{InRows, Paired, EndsMarked}
use Rattle.checks.proofs.sound.RowEnds.{SidesFit, first_end}

module _ {head : Head} {ground learned link : List ℕ} (a : Given head ground learned link) (s : SidesFit head.width head.height) where
  pub spread : InRows head.width (cells_of head) head.goal head.cell ground learned link
  spread = record {
    wide = s.wide;
    row = s.row;
    few = s.few;
    goal_on = a.goal_on;
    cart_on = a.cart_on;
    room = a.room;
  }

  -- `step` is no more than the plot
  paired : (step : ℕ) (end : List ℕ) → step ≤ cells_of head → cells_of head ≤ length end → Paired step (cells_of head - step) ground learned link end
  paired step end on room = record {
    few = omega (arith, s.few);
    room = record { grounds = omega (arith, a.room.grounds); learneds = omega (arith, a.room.learneds); links = omega (arith, a.room.links) };
    ends = omega arith;
  }

  pub spread_below : (k : ℕ) → max_cells ≤ k → Paired head.width (cells_of head - head.width) ground learned link (replicate k 0)
  spread_below k room = paired head.width (replicate k 0) s.row (omega (arith, s.few, length-replicate {A = ℕ} k 0))

  pub spread_right : (end : List ℕ) → length end ≡ max_cells → EndsMarked head.width head.height end
      → (0 < head.width) × (head.width ≤ cells_of head) × (cells_of head ≤ length end) × (get_or end (head.width - 1) 0 ≡ 1)
      × Paired 1 (cells_of head - 1) ground learned link end
  spread_right end long m =
      let room : cells_of head ≤ length end = omega (arith, s.few, long) in
      (s.wide, s.row, room, first_end head.width head.height end s.wide s.high m, paired 1 end (omega (arith, s.row, s.wide)) room)
