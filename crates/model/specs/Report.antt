-- Report (a cell is blocked).
use Rattle.std.specs.Prelude.{ℕ, cond, ◌||◌, List, ◌∷◌, get_or, set, eqb, Ok, Err}
use Rattle.model.specs.Lists.{filled}
use Rattle.model.specs.Plot.{cells, free}
use Rattle.model.specs.Lent.{Lent, lent_with, buffers_of, After, after}
use Rattle.model.specs.Head.{cells_named}
use Rattle.model.specs.Route.{next}
use Rattle.model.specs.Refusals.{refuse_if, and_then, check, changed}
use Rattle.model.specs.declared.Head.{Head}
use Rattle.model.specs.declared.Reason.TheVariants.{OwnCell}
use Rattle.model.specs.Verdict.{Verdict}
use Rattle.model.specs.declared.Changed.{Changed}

-- "The goal may be reported, unless the cart is on it": 5 is of the cart's cell alone
unfoldable pub report_check : Head → Lent → (c : ℕ) → Verdict
report_check head p c =
    and_then (check head p (buffers_of p) (c ∷ cells_named head)) (refuse_if (eqb c head.cell) OwnCell (Ok tt))

-- "its link becomes 0, and so does each neighbour's link that pointed to it": the link of x once c is blocked
unfoldable pub link_once_blocked : (w h : ℕ) (link : List ℕ) (c x : ℕ) → ℕ
link_once_blocked w h link c x = cond (eqb x c || eqb (next w h link x) c) 0 (get_or link x 0)

unfoldable pub unlinked : (w h : ℕ) (link : List ℕ) (c : ℕ) → List ℕ
unlinked w h link c = filled (cells w h) (link_once_blocked w h link c) link

-- "ground becomes 1 there .. Learned values stay. A cell already blocked is accepted and nothing changes"
unfoldable pub blocked : Head → Lent → (c : ℕ) → Lent
blocked head p c =
    cond (free p.ground c)
    (lent_with (set p.ground c 1) p.learned (unlinked head.width head.height p.link c))
    p

unfoldable pub reported : Head → Lent → (c : ℕ) → After Changed
reported head p c =
    elim (report_check head p c) [
      | Ok _ ↦ after (changed head (Ok tt)) (blocked head p c)
      | Err why ↦ after (changed head (Err why)) p
    ]
