-- The links that lead to a cell, cut in one direction after the other.
use Rattle.std.specs.Prelude.{ℕ, zero, suc, ◌+◌, cond, ◌&&◌, List, get_or, set, ltb, eqb}
use Rattle.model.specs.Plot.{cells, ahead, opposite}

-- y's link becomes 0 where y is on the plot and its link is d
unfoldable pub cut_at : (n y d : ℕ) → List ℕ → List ℕ
cut_at n y d link = cond (ltb y n && eqb (get_or link y 0) d) (set link y 0) link

-- c's neighbours in the first k directions do not lead to c any more
unfoldable pub cut_to : (w h c k : ℕ) → List ℕ → List ℕ
cut_to w h c zero link = link
cut_to w h c (suc k) link = cut_at (cells w h) (ahead w h c (k + 1)) (opposite (k + 1)) (cut_to w h c k link)
