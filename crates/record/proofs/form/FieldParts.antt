-- A part that begins with a field: the test that it does, its bytes, and where the next field begins.
-- Assumes nothing.
use mathlib.Core.Path.{◌≡◌, refl, sym, ap, ◌∙◌}
use mathlib.Core.Bool.{Bool, true, ◌&&◌, false≢true}
use mathlib.Core.List.{List, [], ◌∷◌, ◌++◌}
use Prim.Native.Nat.{ℕ, ◌+◌, ◌/◌, ◌%◌}
use native.Mathlib.Omega.{arith}
use borrow.Author.Tests.{eqb-true, le-leb, eq-eqb}
use lib.Dec.{leb, eqb}
use lib.ListN.{length, take, drop, take-append-drop}
use lib.Seq.{drop_at, drop-drop}
use Rattle.model.specs.Record.{field, past}
use Rattle.model.proofs.Lists.Bools.{and_left, and_right, and_both}
use Rattle.record.specs.Form.{begins}

pub both : (a b : Bool) → (a && b) ≡ true → (a ≡ true) × (b ≡ true)
both a b e = (and_left a b e, and_right a b e)

-- The test ------------------------------------------------------------------------------------------------------------------------

begins_is : (tag size : ℕ) (part : List ℕ) → begins tag size part ≡ true → part ≡ tag ∷ size / 256 ∷ size % 256 ∷ drop 3 part
unfolding begins
begins_is tag size [] e = absurd (false≢true e)
begins_is tag size (a ∷ []) e = absurd (false≢true e)
begins_is tag size (a ∷ b ∷ []) e = absurd (false≢true e)
begins_is tag size (a ∷ b ∷ c ∷ rest) e =
    let t = both (eqb a tag) _ (and_right (leb 3 (length (a ∷ b ∷ c ∷ rest))) _ e) in
    let u = both (eqb b (size / 256)) (eqb c (size % 256)) t.1 in
    λ i. eqb-true a tag t.0 i ∷ eqb-true b (size / 256) u.0 i ∷ eqb-true c (size % 256) u.1 i ∷ rest

field_begins : (tag size : ℕ) (body rest : List ℕ) → length body ≡ size → begins tag size (field tag body ++ rest) ≡ true
unfolding begins
field_begins tag size body rest e =
    and_both _ _ (le-leb 3 (length (field tag body ++ rest)) (omega arith))
    (and_both _ _ (eq-eqb tag tag refl)
    (and_both _ _ (eq-eqb (length body / 256) (size / 256) (ap (λ (x : ℕ). x / 256) e))
    (eq-eqb (length body % 256) (size % 256) (ap (λ (x : ℕ). x % 256) e))))

-- One field and what comes behind it ----------------------------------------------------------------------------------------------

module _ (tag size at : ℕ) (bytes body rest : List ℕ) (e : length body ≡ size) where
  -- bytes that pass the test are the field with the body that they have, and what comes behind it
  pub laid : begins tag size (drop at bytes) ≡ true → take size (drop 3 (drop at bytes)) ≡ body → drop (past at size) bytes ≡ rest
      → drop at bytes ≡ field tag body ++ rest
  laid b t d =
      let part = drop at bytes in
      begins_is tag size part b
      ∙ rw e (ap (λ (l : List ℕ). tag ∷ size / 256 ∷ size % 256 ∷ l)
      (sym (take-append-drop size (drop 3 part)) ∙ ap (λ (l : List ℕ). l ++ drop size (drop 3 part)) t
      ∙ ap (λ (l : List ℕ). body ++ l) (drop-drop size 3 part ∙ drop-drop (3 + size) at bytes ∙ d)))

  -- and the other way round
  pub found : drop at bytes ≡ field tag body ++ rest → (begins tag size (drop at bytes) ≡ true) × (drop (past at size) bytes ≡ rest)
  found d = (
    rw d (field_begins tag size body rest e),
    sym (drop-drop (3 + size) at bytes) ∙ ap (drop (3 + size)) d ∙ drop_at (field tag body) rest (3 + size) (omega (arith, e)),
  )
