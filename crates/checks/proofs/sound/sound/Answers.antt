-- `checks::sound::sound` meets its contract: pairs below go by zeros and pairs to the right by the marks, and so the flat tests are
-- `sound`. Assumes nothing.
use Rattle.checks.proofs.sound.PassesGiven.{spread_below, spread_right, spread}
use Rattle.model.specs.Plot.{max_cells}
use lib.ListN.{length-replicate}
use Prim.Native.Nat.{ℕ}
use Rattle.checks.proofs.sound.FlatIsSound.{flat_sound}
use Rattle.checks.proofs.sound.RowEnds.{good_sides, clear_zeros}
use Rattle.checks.proofs.sound.FlatTests.{flat_is}
use native.Mathlib.Omega.{arith}
use mathlib.Core.Path.{◌∙◌}
use Rattle.checks.proofs.sound.sound.Goals as goal

pub pairs-below-requires : goal.pairs-below-requires
pairs-below-requires c = spread_below c.requires (good_sides _ _ c.requires.sides) max_cells (omega arith)

pub mark_ends-requires : goal.mark_ends-requires
mark_ends-requires c = (
  (good_sides _ _ c.requires.sides).wide,
  omega (
    arith,
    (good_sides _ _ c.requires.sides).swapped,
    (good_sides _ _ c.requires.sides).few,
    length-replicate {A = ℕ} max_cells 0,
  ),
  clear_zeros max_cells,
)

pub right_pairs-right-requires : goal.right_pairs-right-requires
right_pairs-right-requires c =
    spread_right c.requires (good_sides _ _ c.requires.sides) _ c.mark_ends.auto.end
    c.mark_ends.ensures

pub alone-requires : goal.alone-requires
alone-requires c = spread c.requires (good_sides _ _ c.requires.sides)

pub returns : goal.returns
returns c =
    flat_is _ _ _ _ _ _ _ _ _ _ _ _ c.alone.ensures c.right_pairs-right.ensures c.pairs-below.ensures
    ∙ flat_sound _ _ _ _ _ _ (good_sides _ _ c.requires.sides) c.mark_ends.ensures
    (clear_zeros max_cells) c.requires.goal_on
