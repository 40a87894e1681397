-- What the parts of the reader answer.
use Rattle.std.specs.Prelude.{ℕ, Bool, not, ◌&&◌, List}
use Rattle.model.specs.Plot.{bad_sides}
use Rattle.model.specs.Head.{cells_of, cells_named}
use Rattle.model.specs.Refusals.{any_outside}
use Rattle.model.specs.declared.Head.{Head}
use Rattle.drawing.specs.Drawing.{Drawing}

-- good sides, and cells on the plot
unfoldable pub on_plot : Head → Bool
on_plot head = not (bad_sides head.width head.height) && not (any_outside (cells_of head) (cells_named head))

abbrev pub drawn_as : Head → (truth : List ℕ) → Drawing
drawn_as head truth = record { head = head; truth = truth }
