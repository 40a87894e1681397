-- The head array: width, height, goal, the cart's cell, and the count of expanded cells of the last plan.
use Rattle.std.specs.Prelude.{ℕ, List, [], ◌∷◌, get_or, set}
use Rattle.model.specs.Lent.{fronted}
use Rattle.model.specs.Head.{head_at}
use Rattle.model.specs.Controller.{rewritten}
use Rattle.model.specs.declared.Head.{Head}
use Rattle.model.specs.Verdict.{Verdict}
use Rattle.model.specs.declared.Changed.{Changed}

abbrev pub head_size : ℕ
head_size = 5

abbrev pub head_in : List ℕ → Head
head_in l = head_at (get_or l 0 0) (get_or l 1 0) (get_or l 2 0) (get_or l 3 0)

-- all five set; entries after the fifth stay
abbrev pub head_written : Head → (count : ℕ) → List ℕ → List ℕ
head_written head count l = fronted (head.width ∷ head.height ∷ head.goal ∷ head.cell ∷ count ∷ []) l

-- once accepted, layout and load set the head, and the count to 0; a refusal leaves the array
abbrev pub head_set : Changed → List ℕ → List ℕ
head_set r l = rewritten r.verdict l (head_written r.head 0 l)

-- once accepted, plan and move set one entry
abbrev pub entry_set : Verdict → (at v : ℕ) → List ℕ → List ℕ
entry_set verdict at v l = rewritten verdict l (set l at v)
