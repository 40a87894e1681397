-- The flat tests, as Booleans that compute: each is one pass over neighbouring places of the buffers, and all of them
-- together say what `sound` says (proofs/sound/FlatIsSound, `flat_sound`).
use Rattle.std.specs.Prelude.{ℕ, ◌+◌, ◌-◌, ◌*◌, ◌≤◌, ◌<◌, ◌≡◌, Bool, not, ◌&&◌, ◌||◌, List, get_or, length, leb, ltb, eqb}
use Rattle.model.specs.Lists.{every}
use Rattle.model.specs.Plot.{max_cells, gap}
use Rattle.model.specs.Lent.{lent_with}
use Rattle.model.specs.Fit.{Room}

-- a cell's own bytes: ground is 0 or 1, the link at most 4, and one of them 0
unfoldable pub cell_test : (g k : ℕ) → Bool
cell_test g k = leb g 1 && (leb k 4 && (eqb k 0 || eqb g 0))

abbrev pub cell_at : (ground : List ℕ) (link : List ℕ) → ℕ → Bool
cell_at ground link i = cell_test (get_or ground i 0) (get_or link i 0)

-- a learned value is at most `top`
abbrev pub small_at : ℕ → List ℕ → ℕ → Bool
small_at top learned i = leb (get_or learned i 0) top

-- cells a and b, where e is 0 unless a row ends between them: both free and of one row, they are near in learned value
unfoldable pub near_test : (ga gb e la lb : ℕ) → Bool
near_test ga gb e la lb = ltb 0 ga || (ltb 0 gb || (ltb 0 e || leb (gap la lb) 1))

-- where direction `to` leads from a to b and `from` back: a link between them leads to a free cell, over no row's end
unfoldable pub lead_test : (ga gb e ka kb to from : ℕ) → Bool
lead_test ga gb e ka kb to from =
    (not (eqb ka to) || (eqb gb 0 && eqb e 0)) && (not (eqb kb from) || (eqb ga 0 && eqb e 0))

-- the cell i and the one `step` places on; `end` holds the marks of the rows' ends
abbrev pub near_at : (step : ℕ) (ground learned end : List ℕ) → ℕ → Bool
near_at step ground learned end i =
    near_test (get_or ground i 0) (get_or ground (i + step) 0) (get_or end i 0) (get_or learned i 0) (get_or learned (i + step) 0)

abbrev pub lead_at : (step to from : ℕ) (ground link end : List ℕ) → ℕ → Bool
lead_at step to from ground link end i =
    lead_test (get_or ground i 0) (get_or ground (i + step) 0) (get_or end i 0) (get_or link i 0) (get_or link (i + step) 0) to from

unfoldable pub pairs : (step to from n : ℕ) (ground learned link end : List ℕ) → Bool
pairs step to from n ground learned link end =
    every n (near_at step ground learned end) && every n (lead_at step to from ground link end)

-- no link leads up from the first row, or down from the last
unfoldable pub edge_test : (first last : ℕ) → Bool
edge_test first last = not (eqb first 4) && not (eqb last 2)

abbrev pub edge_at : ℕ → List ℕ → ℕ → Bool
edge_at low link i = edge_test (get_or link i 0) (get_or link (low + i) 0)

-- what is asked of cells one by one, of n cells in rows of w
unfoldable pub alone : (w n goal cell : ℕ) (ground learned link : List ℕ) → Bool
alone w n goal cell ground learned link =
    (every n (cell_at ground link) && every n (small_at (n - 1) learned))
    && ((every w (edge_at (n - w) link) && (not (eqb (get_or link 0 0) 3) && not (eqb (get_or link (n - 1) 0) 1)))
    && (eqb (get_or ground cell 0) 0 && (eqb (get_or learned goal 0) 0 && eqb (get_or link goal 0) 0)))

-- and of pairs: to the right, where rows end, and below, where none does
unfoldable pub flat : (w n goal cell : ℕ) (ground learned link end blank : List ℕ) → Bool
flat w n goal cell ground learned link end blank =
    alone w n goal cell ground learned link
    && (pairs 1 1 3 (n - 1) ground learned link end && pairs w 2 4 (n - w) ground learned link blank)

-- what they are given: n cells in rows of w ..
pub record InRows (w n goal cell : ℕ) (ground learned link : List ℕ) : Type 0 where
  pub wide : 0 < w
  pub row : w ≤ n
  pub few : n ≤ max_cells
  pub goal_on : goal < n
  pub cart_on : cell < n
  pub room : Room n (lent_with ground learned link)

-- .. and n pairs, of cells that are `step` apart
pub record Paired (step n : ℕ) (ground learned link end : List ℕ) : Type 0 where
  pub few : n + step ≤ max_cells
  pub room : Room (n + step) (lent_with ground learned link)
  pub ends : n ≤ length end

-- the marks of the rows' ends: none; and 1 at the last cell of each of the first h rows of w cells, 0 at the cells before it
pub record Clear (end : List ℕ) : Type 0 where
  pub zero : (i : ℕ) → get_or end i 0 ≡ 0

pub record EndsMarked (w h : ℕ) (end : List ℕ) : Type 0 where
  pub inside : (r c : ℕ) → c + 1 < w → get_or end (r * w + c) 0 ≡ 0
  pub last : (r c : ℕ) → r < h → c + 1 ≡ w → get_or end (r * w + c) 0 ≡ 1
