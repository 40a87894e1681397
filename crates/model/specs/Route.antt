-- When a route stands, and its cells.
use Rattle.std.specs.Prelude.{ℕ, zero, suc, Bool, ◌&&◌, ◌||◌, List, [], ◌∷◌, get_or, ltb, eqb}
use Rattle.model.specs.Plot.{cells, ahead}
use Rattle.model.specs.Lent.{Lent}
use Rattle.model.specs.declared.Head.{Head}

-- the cell to which c's link leads, or N
abbrev pub next : (w h : ℕ) (link : List ℕ) (c : ℕ) → ℕ
next w h link c = ahead w h c (get_or link c 0)

-- "following links, the learned value falls by exactly 1 at each step until the goal is reached", from c, whose learned
-- value is v: so at most v steps are left
unfoldable pub leads : (w h goal : ℕ) (learned link : List ℕ) (v c : ℕ) → Bool
leads w h goal learned link zero c = eqb c goal
leads w h goal learned link (suc v) c =
    eqb c goal
    || (ltb (next w h link c) (cells w h)
    && (eqb (get_or learned (next w h link c) 0) v && leads w h goal learned link v (next w h link c)))

abbrev pub leads_from : (w h goal : ℕ) → Lent → ℕ → Bool
leads_from w h goal p c = leads w h goal p.learned p.link (get_or p.learned c 0) c

-- "Route stands": so it is from the cart's cell. "It stands at the goal itself"
abbrev pub stands : Head → Lent → Bool
stands head p = leads_from head.width head.height head.goal p head.cell

-- the v + 1 cells from c on, following links
unfoldable pub cells_from : (w h : ℕ) (link : List ℕ) (v c : ℕ) → List ℕ
cells_from w h link zero c = c ∷ []
cells_from w h link (suc v) c = c ∷ cells_from w h link v (next w h link c)

-- "its cells from the cart's cell to the goal": one more than its steps, and where the route stands the last is the goal
-- (proofs/Calls/ListLaws, `list_writes`)
unfoldable pub route : Head → Lent → List ℕ
route head p = cells_from head.width head.height p.link (get_or p.learned head.cell 0) head.cell
