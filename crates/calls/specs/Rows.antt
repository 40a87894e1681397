-- The distances to the goal, row by row.
use Rattle.std.specs.Prelude.{ℕ, zero, suc, ◌+◌, List, set}
use Rattle.model.specs.Plot.{gap}

-- the distance of column k in a row that is this many rows from the goal's, where the goal stands in column `col`
unfoldable pub in_row : (rows col k : ℕ) → ℕ
in_row rows col k = rows + gap col k

-- l with the distances of the first k columns of a row, whose first cell is `first`
unfoldable pub row_filled : (first rows col k : ℕ) → List ℕ → List ℕ
row_filled first rows col zero l = l
row_filled first rows col (suc k) l = set (row_filled first rows col k l) (first + k) (in_row rows col k)
