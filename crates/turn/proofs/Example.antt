-- The drive of document 01's example, by computation from the definitions. Assumes nothing. No contract cites this file.
use Rattle.std.specs.Prelude.{◌≡◌, refl, true, false, [], ◌∷◌, ◌++◌, take}
use Rattle.model.specs.Examples.{definitions}
use Rattle.printing.specs.Text.{digits}
use Rattle.printing.specs.declared.lines.Line.{Line}
use Rattle.drawing.specs.Drawing.{row_text, text, fine, value, behind, truth_in, drawing_in, well_formed}
use Rattle.turn.specs.Turn.{unknown, sighting, turn}
use Rattle.turn.specs.Example.{input, first, lines}

-- document 01's example, line by line; with a line feed more, or with its last byte cut off, it is no drawing
pub example : (well_formed input ≡ true) × (well_formed (input ++ (10 ∷ [])) ≡ false) × (well_formed (take 15 input) ≡ false)
    × (lines 20 (drawing_in input).truth (first (drawing_in input))
    ≡ Line.Blocked 1 ∷ Line.Plan 4 4 ∷ Line.Move 3 ∷ Line.Move 4 ∷ Line.Move 5 ∷ Line.Move 2 ∷ Line.Arrived 4 ∷ [])
unfolding definitions digits row_text text fine value behind truth_in drawing_in well_formed unknown sighting turn lines
example = (refl, refl, refl, refl)
