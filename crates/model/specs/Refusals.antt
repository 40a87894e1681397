-- "What comes back when it can't be done": the tests that calls share, in the order of their numbers, and the verdict.
use Rattle.std.specs.Prelude.{ℕ, Bool, true, false, not, ◌||◌, List, [], ◌∷◌, length, ltb, leb, Ok, Err}
use Rattle.model.specs.Plot.{bad_sides, cells}
use Rattle.model.specs.Lent.{Lent, buffers_of}
use Rattle.model.specs.Head.{cells_named}
use Rattle.model.specs.Sound.{sound}
use Rattle.model.specs.declared.Head.{Head}
use Rattle.model.specs.declared.Reason.{Reason}
use Rattle.model.specs.declared.Reason.TheVariants.{Sides, Short, Outside, Unsound}
use Rattle.model.specs.Verdict.{Verdict}
use Rattle.model.specs.declared.Changed.{Changed}

-- refused for this reason where the test passes; else what the next tests say
abbrev pub refuse_if : Bool → Reason → Verdict → Verdict
refuse_if true why next = Err why
refuse_if false why next = next

-- the refusal of the first, or else what the next says
abbrev pub and_then : Verdict → Verdict → Verdict
and_then (Ok _) next = next
and_then (Err why) next = Err why

-- a buffer has fewer than n entries; one of some has
abbrev pub too_short : ℕ → List ℕ → Bool
too_short n l = ltb (length l) n

abbrev pub any_short : ℕ → List (List ℕ) → Bool
any_short n [] = false
any_short n (l ∷ ls) = too_short n l || any_short n ls

-- one of some cells is n or more
abbrev pub any_outside : ℕ → List ℕ → Bool
any_outside n [] = false
any_outside n (c ∷ cs) = leb n c || any_outside n cs

-- 1, 2 for the buffers that are lent, 3 for the cells that are named
unfoldable pub fits : (w h : ℕ) (buffers : List (List ℕ)) (named : List ℕ) → Verdict
fits w h buffers named =
    refuse_if (bad_sides w h) Sides
    (refuse_if (any_short (cells w h) buffers) Short
    (refuse_if (any_outside (cells w h) named) Outside (Ok tt)))

-- 1, 2, 3, and then 4: "Every call but layout checks this over all cells"
unfoldable pub check : Head → Lent → (buffers : List (List ℕ)) (named : List ℕ) → Verdict
check head p buffers named =
    and_then (fits head.width head.height buffers named) (refuse_if (not (sound head p)) Unsound (Ok tt))

-- the same of the head and what is lent alone: the data are accepted. What else a call is given it tests afterwards
abbrev pub acceptance : Head → Lent → Verdict
acceptance head p = check head p (buffers_of p) (cells_named head)

-- the answer of a call that changes what is lent: the next head, and the verdict
abbrev pub changed : Head → Verdict → Changed
changed head verdict = record { head = head; verdict = verdict }
