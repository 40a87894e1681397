-- What document 01's edges are computed of: each call's refusal number, over small plots and records. The edges are proved
-- in proofs/Computed/Edges. No contract cites this file.
use Rattle.std.specs.Prelude.{List, [], ◌∷◌, ℕ, replicate}
use Rattle.model.specs.Lent.{Lent, lent_with, scratch_with}
use Rattle.model.specs.Head.{head_at}
use Rattle.model.specs.Numbers.{verdict_number, outcome_verdict, step_verdict, given_number}
use Rattle.model.specs.Layout.{laid_out}
use Rattle.model.specs.Report.{reported}
use Rattle.model.specs.Plan.{planned}
use Rattle.model.specs.Move.{moved}
use Rattle.model.specs.Store.{saved, loaded}

-- buffers of so many 9s, and a plot of 2×1 with goal 1 and the cart on 0: free, learned 1 0, linked where it says so
abbrev pub nines : (n : ℕ) → List ℕ
nines n = replicate n 9

abbrev pub lent_of : (g l k : ℕ) → Lent
lent_of g l k = lent_with (nines g) (nines l) (nines k)

abbrev pub pair : (l₀ link₀ : ℕ) → Lent
pair l₀ link₀ = lent_with (0 ∷ 0 ∷ []) (l₀ ∷ 0 ∷ []) (link₀ ∷ 0 ∷ [])

-- Each call's refusal number, or 0 ---------------------------------------------------------------------------------------------------

abbrev pub layout : (w h start goal g l k : ℕ) → ℕ
layout w h start goal g l k = verdict_number (laid_out w h start goal (lent_of g l k)).answer.verdict

-- sides, cells and buffers of a head with sound data of 2×1
abbrev pub report : (w h goal cell c : ℕ) → Lent → ℕ
report w h goal cell c p = verdict_number (reported (head_at w h goal cell) p c).answer.verdict

abbrev pub plan : (w h goal cell m c t : ℕ) → Lent → ℕ
plan w h goal cell m c t p =
    verdict_number (outcome_verdict (planned (head_at w h goal cell) p (scratch_with (nines m) (nines c) (nines t))).answer.outcome)

abbrev pub move : (w h goal cell : ℕ) → Lent → ℕ
move w h goal cell p = verdict_number (step_verdict (moved (head_at w h goal cell) p).answer.step)

abbrev pub save : (room : ℕ) → Lent → ℕ
save room p = given_number (saved (head_at 2 1 1 0) p (nines room)).answer.length

abbrev pub load : (bytes : List ℕ) (g l k : ℕ) → ℕ
load bytes g l k = verdict_number (loaded bytes (lent_of g l k)).answer.verdict

-- P10's record with these sides, goal, cell, ground byte, learned value of cell 0, and what follows
abbrev pub bytes_of : (w h goal cell byte l₀ : ℕ) → List ℕ → List ℕ
bytes_of w h goal cell byte l₀ rest =
    1 ∷ 0 ∷ 1 ∷ w ∷ 2 ∷ 0 ∷ 1 ∷ h ∷ 3 ∷ 0 ∷ 2 ∷ 0 ∷ goal ∷ 4 ∷ 0 ∷ 2 ∷ 0 ∷ cell ∷ 5 ∷ 0 ∷ 1 ∷ byte
    ∷ 6 ∷ 0 ∷ 4 ∷ 0 ∷ l₀ ∷ 0 ∷ 0 ∷ 7 ∷ 0 ∷ 2 ∷ 0 ∷ 0 ∷ rest
