-- The part that the verdicts share. A verdict asks a buffer for its length alone, so a blank one of that length stands for it.
use Rattle.std.specs.Prelude.{ℕ, List, [], ◌∷◌, replicate}
use Rattle.model.specs.Lent.{Lent, buffers_of}
use Rattle.model.specs.Head.{cells_named}
use Rattle.model.specs.Refusals.{fits, check}
use Rattle.model.specs.declared.Head.{Head}
use Rattle.model.specs.Verdict.{Verdict}

unfoldable pub blank : ℕ → List ℕ
blank n = replicate n 0

-- 1 to 3, where the shortest buffer has `room` entries and the farthest cell that is named is `far`
abbrev pub fits_within : (w h room far : ℕ) → Verdict
fits_within w h room far = fits w h (blank room ∷ []) (far ∷ [])

-- 1 to 3, and 1 to 4, where a further buffer of `spare` entries is lent, and a cell `also` is named beside the head's
abbrev pub fits_with : Head → Lent → (spare also : ℕ) → Verdict
fits_with head p spare also = fits head.width head.height (blank spare ∷ buffers_of p) (also ∷ cells_named head)

abbrev pub check_with : Head → Lent → (spare also : ℕ) → Verdict
check_with head p spare also = check head p (blank spare ∷ buffers_of p) (also ∷ cells_named head)
