-- Accepted data, cell by cell: what the tests of a call say, with no Bool.
-- Assumes nothing.
use Rattle.std.specs.Prelude.{◌≡◌, ◌≢◌, true, false, List, ℕ, ◌≤◌, ◌<◌, length, get_or}
use Rattle.model.specs.Plot.{max_cells, bad_sides, cells, ahead, free, allowed, gap}
use Rattle.model.specs.Lent.{Lent, Scratch}
use Rattle.model.specs.declared.Head.{Head}

-- c's link is an allowed step, and c is not the goal
pub record Linked (w h goal : ℕ) (ground link : List ℕ) (c : ℕ) : Type 0 where
  pub away : c ≢ goal
  pub may : allowed w h ground c (get_or link c 0) ≡ true

-- sound data
pub record Fit (w h goal cell : ℕ) (p : Lent) : Type 0 where
  pub ground : (c : ℕ) → c < cells w h → get_or p.ground c 0 ≤ 1
  pub cart : free p.ground cell ≡ true
  pub learned : (c : ℕ) → c < cells w h → get_or p.learned c 0 < cells w h
  pub zero_there : get_or p.learned goal 0 ≡ 0
  pub close : (c d : ℕ) → c < cells w h → allowed w h p.ground c d ≡ true → gap (get_or p.learned c 0) (get_or p.learned (ahead w h c d) 0) ≤ 1
  pub links : (c : ℕ) → c < cells w h → get_or p.link c 0 ≢ 0 → Linked w h goal p.ground p.link c

-- room for n cells in what is lent, and in scratch
pub record Room (n : ℕ) (p : Lent) : Type 0 where
  pub grounds : n ≤ length p.ground
  pub learneds : n ≤ length p.learned
  pub links : n ≤ length p.link

pub record Sized (n : ℕ) (s : Scratch) : Type 0 where
  pub marks : n ≤ length s.mark
  pub costs : n ≤ length s.cost
  pub trails : n ≤ length s.trail

-- good sides, and the goal and the cart on the plot
pub record Placed (w h goal cell : ℕ) : Type 0 where
  pub sides : bad_sides w h ≡ false
  pub wide : 0 < w
  pub high : 0 < h
  pub few : cells w h ≤ max_cells
  pub goal_on : goal < cells w h
  pub cart_on : cell < cells w h

-- accepted data
pub record Held (head : Head) (p : Lent) : Type 0 where
  pub placed : Placed head.width head.height head.goal head.cell
  pub room : Room (cells head.width head.height) p
  pub fit : Fit head.width head.height head.goal head.cell p
