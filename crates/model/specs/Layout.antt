-- Lay out (sizes, start, goal).
use Rattle.std.specs.Prelude.{ℕ, [], ◌∷◌, Ok, Err}
use Rattle.model.specs.Lists.{filled, each}
use Rattle.model.specs.Plot.{cells, distance}
use Rattle.model.specs.Lent.{Lent, lent_with, buffers_of, After, after}
use Rattle.model.specs.Head.{head_at, no_head}
use Rattle.model.specs.Refusals.{fits, changed}
use Rattle.model.specs.Verdict.{Verdict}
use Rattle.model.specs.declared.Changed.{Changed}

-- "Start may equal goal": no test asks
unfoldable pub layout_check : (w h start goal : ℕ) → Lent → Verdict
layout_check w h start goal p = fits w h (buffers_of p) (goal ∷ start ∷ [])

-- "ground all 0, learned = Manhattan distance to the goal, link all 0"
unfoldable pub fresh : (w h goal : ℕ) → Lent → Lent
fresh w h goal p =
    let n = cells w h in
    lent_with (filled n (each 0) p.ground) (filled n (distance w goal) p.learned) (filled n (each 0) p.link)

unfoldable pub laid_out : (w h start goal : ℕ) → Lent → After Changed
laid_out w h start goal p =
    elim (layout_check w h start goal p) [
      | Ok _ ↦ after (changed (head_at w h goal start) (Ok tt)) (fresh w h goal p)
      | Err why ↦ after (changed no_head (Err why)) p
    ]
