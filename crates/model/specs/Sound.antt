-- Sound data: four tests, each over all cells.
use Rattle.std.specs.Prelude.{ℕ, Bool, not, ◌&&◌, ◌||◌, List, get_or, ltb, leb, eqb}
use Rattle.model.specs.Lists.{every}
use Rattle.model.specs.Plot.{cells, ahead, in_each, free, allowed, gap}
use Rattle.model.specs.Lent.{Lent}
use Rattle.model.specs.Head.{cells_of}
use Rattle.model.specs.declared.Head.{Head}

-- "each ground byte is 0 or 1 .."
abbrev pub ground_entry : (ground : List ℕ) (c : ℕ) → Bool
ground_entry ground c = leb (get_or ground c 0) 1

-- ".. and 0 at the cart's cell"
unfoldable pub ground_sound : (n cell : ℕ) (ground : List ℕ) → Bool
ground_sound n cell ground = every n (ground_entry ground) && free ground cell

-- "each learned value is at most N-1 .."
abbrev pub learned_entry : (n : ℕ) (learned : List ℕ) (c : ℕ) → Bool
learned_entry n learned c = ltb (get_or learned c 0) n

-- ".. and the goal's is 0"
unfoldable pub learned_sound : (n goal : ℕ) (learned : List ℕ) → Bool
learned_sound n goal learned = every n (learned_entry n learned) && eqb (get_or learned goal 0) 0

-- "two neighbours that are both free differ by at most 1 in learned value": c and its neighbour in direction d
unfoldable pub step_close : (w h : ℕ) (ground learned : List ℕ) (c d : ℕ) → Bool
step_close w h ground learned c d =
    not (allowed w h ground c d) || leb (gap (get_or learned c 0) (get_or learned (ahead w h c d) 0)) 1

unfoldable pub cell_close : (w h : ℕ) (ground learned : List ℕ) (c : ℕ) → Bool
cell_close w h ground learned c = in_each (step_close w h ground learned c)

unfoldable pub neighbours_close : (w h : ℕ) (ground learned : List ℕ) → Bool
neighbours_close w h ground learned = every (cells w h) (cell_close w h ground learned)

-- "each link is 0 to 4, is 0 at the goal and at blocked cells, may be 0 anywhere, and where it isn't 0 steps to a free
-- cell of the plot": it is 0, or away from the goal an allowed step
unfoldable pub link_entry : (w h goal : ℕ) (ground link : List ℕ) (c : ℕ) → Bool
link_entry w h goal ground link c =
    eqb (get_or link c 0) 0 || (not (eqb c goal) && allowed w h ground c (get_or link c 0))

unfoldable pub links_sound : (w h goal : ℕ) (ground link : List ℕ) → Bool
links_sound w h goal ground link = every (cells w h) (link_entry w h goal ground link)

unfoldable pub sound : Head → Lent → Bool
sound head p =
    ground_sound (cells_of head) head.cell p.ground
    && (learned_sound (cells_of head) head.goal p.learned
    && (neighbours_close head.width head.height p.ground p.learned
    && links_sound head.width head.height head.goal p.ground p.link))
