-- What the demands speak of: accepted data, ways over cells not known blocked, and the fewest steps.
use Rattle.std.specs.Prelude.{◌≡◌, true, List, ℕ, ◌<◌, Ok}
use Rattle.walks.specs.Walk.{Walk, Fewest}
use Rattle.model.specs.Plot.{cells, ahead, allowed}
use Rattle.model.specs.Lent.{Lent}
use Rattle.model.specs.Refusals.{acceptance}
use Rattle.model.specs.declared.Head.{Head}

-- one leg of a way: an allowed step in direction d leads from cell x of the plot to y
pub record Leg (w h : ℕ) (ground : List ℕ) (d x y : ℕ) : Type 0 where
  pub inside : x < cells w h
  pub may : allowed w h ground x d ≡ true
  pub lands : ahead w h x d ≡ y

-- in some direction one does
pub record Adj (w h : ℕ) (ground : List ℕ) (x y : ℕ) : Type 0 where
  pub dir : ℕ
  pub leg : Leg w h ground dir x y

-- the data are accepted
abbrev pub Accepts : Head → Lent → Type 0
Accepts head p = acceptance head p ≡ Ok tt

-- n steps over cells not known blocked lead from x to the goal ..
abbrev pub HasWay : Head → Lent → (x n : ℕ) → Type 0
HasWay head p x n = Walk (Adj head.width head.height p.ground) x head.goal n

-- .. and no fewer do
abbrev pub Shortest : Head → Lent → (x n : ℕ) → Type 0
Shortest head p x n = Fewest (Adj head.width head.height p.ground) x head.goal n
