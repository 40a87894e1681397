-- One step of the walk along links.
use Rattle.std.specs.Prelude.{ℕ, zero, suc, cond, ◌&&◌, List, get_or, ltb, eqb}
use Rattle.model.specs.Plot.{cells}
use Rattle.model.specs.Route.{next}

-- the cell that c's link leads to, where its learned value is one less than v; N where there is none
unfoldable pub descend : (w h : ℕ) (learned link : List ℕ) (v c : ℕ) → ℕ
descend w h learned link zero c = cells w h
descend w h learned link (suc v) c =
    cond (ltb (next w h link c) (cells w h) && eqb (get_or learned (next w h link c) 0) v) (next w h link c) (cells w h)
