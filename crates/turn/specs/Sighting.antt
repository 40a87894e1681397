-- What a look asks for: the cart stands on a plot, and truth and ground have as many cells.
use Rattle.std.specs.Prelude.{ℕ, ◌<◌, ◌≤◌, ◌≡◌, false, List, length}
use Rattle.model.specs.Plot.{bad_sides}
use Rattle.model.specs.Head.{cells_of}
use Rattle.model.specs.declared.Head.{Head}

pub record InSight (head : Head) (truth ground : List ℕ) : Type 0 where
  pub sides : bad_sides head.width head.height ≡ false
  pub cart_on : head.cell < cells_of head
  pub truths : cells_of head ≤ length truth
  pub grounds : cells_of head ≤ length ground
