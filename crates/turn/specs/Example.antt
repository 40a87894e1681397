-- What the drive of document 01's example is computed of. The example is proved in proofs/Example. No contract cites this file.
use Rattle.std.specs.Prelude.{cond, List, [], ◌∷◌, ℕ, zero, suc, replicate}
use Rattle.model.specs.Lent.{scratch_with}
use Rattle.model.specs.Head.{cells_of}
use Rattle.model.specs.Record.{room_for}
use Rattle.model.specs.Layout.{laid_out}
use Rattle.drawing.specs.Drawing.{Drawing}
use Rattle.printing.specs.Lines.{is_last}
use Rattle.turn.specs.Turn.{Drive, turn}
use Rattle.printing.specs.declared.lines.Line.{Line}

-- 3 2 0 2 / .#. / ...
abbrev pub input : List ℕ
input = 51 ∷ 32 ∷ 50 ∷ 32 ∷ 48 ∷ 32 ∷ 50 ∷ 10 ∷ 46 ∷ 35 ∷ 46 ∷ 10 ∷ 46 ∷ 46 ∷ 46 ∷ 10 ∷ []

abbrev pub first : Drawing → Drive
first d =
    let n = cells_of d.head in
    let r = laid_out d.head.width d.head.height d.head.cell d.head.goal (room_for n) in
    record { head = r.answer.head; lent = r.lists; scratch = scratch_with (replicate n 0) (replicate n 0) (replicate n 0); moves = 0 }

unfoldable pub lines : (most : ℕ) (truth : List ℕ) → Drive → List Line
lines zero truth k = []
lines (suc m) truth k = let s = turn truth k in s.line ∷ cond (is_last s.line) [] (lines m truth s.drive)
