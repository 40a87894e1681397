-- What callers show before links are followed.
use Rattle.std.specs.Prelude.{◌≡◌, false, List, ℕ, ◌≤◌, ◌<◌, length}
use Rattle.model.specs.Plot.{bad_sides, cells}

-- links can be followed from c: good sides, c on the plot, and N entries or more in each buffer
pub record Walkable (w h c : ℕ) (learned link : List ℕ) : Type 0 where
  pub sides : bad_sides w h ≡ false
  pub inside : c < cells w h
  pub learneds : cells w h ≤ length learned
  pub links : cells w h ≤ length link
