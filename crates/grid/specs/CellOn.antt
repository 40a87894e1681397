-- A cell of a plot, where there is one.
use Rattle.std.specs.Prelude.{ℕ, Option, Some, None, cond, ltb}

-- x, where it is one of the first n cells
unfoldable pub cell_on : (n x : ℕ) → Option ℕ
cell_on n x = cond (ltb x n) (Some x) None
