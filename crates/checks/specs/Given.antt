-- What callers show before a test over lent buffers: what refusals 1 to 3 leave.
use Rattle.std.specs.Prelude.{◌≡◌, false, List, ℕ, ◌<◌}
use Rattle.model.specs.Plot.{bad_sides}
use Rattle.model.specs.Lent.{lent_with}
use Rattle.model.specs.Head.{cells_of}
use Rattle.model.specs.Fit.{Room}
use Rattle.model.specs.declared.Head.{Head}

-- soundness can be tested over all cells: good sides, the goal and the cart on the plot, and N entries or more in each
pub record Given (head : Head) (ground : List ℕ) (learned link : List ℕ) : Type 0 where
  pub sides : bad_sides head.width head.height ≡ false
  pub goal_on : head.goal < cells_of head
  pub cart_on : head.cell < cells_of head
  pub room : Room (cells_of head) (lent_with ground learned link)
