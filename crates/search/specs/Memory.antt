-- The stop test's memory: cells that do not lead to the goal.
use Rattle.std.specs.Prelude.{◌≡◌, Bool, false, List, ℕ, ◌≤◌, ◌<◌, length, get_or}
use Rattle.model.specs.Plot.{cells}
use Rattle.model.specs.Route.{leads}
use Rattle.grid.specs.Walkable.{Walkable}

-- links lead from x to the goal
abbrev pub leads_at : (w h goal : ℕ) (learned link : List ℕ) (x : ℕ) → Bool
leads_at w h goal learned link x = leads w h goal learned link (get_or learned x 0) x

-- each cell that is marked gone does not lead to the goal
pub record Gone (w h goal : ℕ) (learned link gone : List ℕ) : Type 0 where
  pub never : (x : ℕ) → x < cells w h → (get_or gone x 0 ≡ 0 → ⊥) → leads_at w h goal learned link x ≡ false

-- what a stop test asks of its caller
pub record Testable (w h n c : ℕ) (learned link gone : List ℕ) : Type 0 where
  pub walk : Walkable w h c learned link
  pub count : n ≡ cells w h
  pub gones : n ≤ length gone

-- what it answers, and its memory afterwards: right where the search goes on
pub record Tested (w h goal : ℕ) (learned link : List ℕ) (c : ℕ) (r : Bool) (gone : List ℕ) : Type 0 where
  pub answer : r ≡ leads_at w h goal learned link c
  pub memory : r ≡ false → Gone w h goal learned link gone
