-- Load's checks: what code tests is what document 01 asks.
-- Assumes nothing.
use Rattle.std.specs.Prelude.{Ok}
use mathlib.Core.Path.{◌≡◌, refl, sym, ap, ◌∙◌}
use mathlib.Core.Bool.{Bool, true, false, not, ◌&&◌}
use mathlib.Core.List.{List}
use Prim.Native.Nat.{ℕ, ◌<◌}
use borrow.Author.Tests.{not-false}
use lib.ListN.{get_or}
use Rattle.model.specs.Plot.{bad_sides}
use Rattle.model.specs.Lent.{Lent}
use Rattle.model.specs.Head.{cells_of, cells_named}
use Rattle.model.specs.Sound.{sound}
use Rattle.model.specs.Refusals.{refuse_if, and_then, any_outside}
use Rattle.model.specs.Record.{head_of, read_into, sides_formed, formed}
use Rattle.model.specs.Store.{load_check}
use Rattle.model.specs.declared.Head.{Head}
use Rattle.model.specs.declared.Reason.{Reason}
use Rattle.model.specs.declared.Reason.TheVariants.{Sides, Outside, Form}
use Rattle.model.specs.Verdict.{Verdict}
use Rattle.model.specs.Fit.{Room, Placed}
use Rattle.model.proofs.Calls.Soundness.{sound_fit, fit_sound}
use Rattle.model.proofs.Calls.FirstEntries.{SameEntries, fit_same}
use Rattle.model.proofs.Record.RecordFields.{read_same}
use Rattle.model.proofs.Lists.Scans.{same_test}
use Rattle.record.specs.Form.{sides_test, rest_test, fields_formed, form_check}
use Rattle.record.specs.Load.{open_check, state_check}
use Rattle.record.proofs.form.FormIs.{sides_formed_is, formed_is}

-- Soundness -------------------------------------------------------------------------------------------------------------------------

-- Soundness asks the first N entries alone ..
entries_sound : (head : Head) (p q : Lent) → Placed head.width head.height head.goal head.cell → SameEntries (cells_of head) p q
    → SameEntries (cells_of head) q p → sound head p ≡ sound head q
entries_sound head p q r e f =
    same_test _ _ (λ t. fit_sound head q (fit_same p q r (sound_fit head p t) e)) (λ t. fit_sound head p (fit_same q p r (sound_fit head q t) f))

-- .. and so it is the same of what is read into one room and into another.
pub sound_same : (head : Head) (bytes : List ℕ) (p q : Lent) → Placed head.width head.height head.goal head.cell → Room (cells_of head) p
    → Room (cells_of head) q
    → sound head (read_into (cells_of head) bytes p) ≡ sound head (read_into (cells_of head) bytes q)
sound_same head bytes p q r a b =
    entries_sound head _ _ r (read_same (cells_of head) bytes p q a b) (read_same (cells_of head) bytes q p b a)

-- The checks ------------------------------------------------------------------------------------------------------------------------

-- where the first two fields are in form, the rest decides
pub rest_formed_is : (bytes : List ℕ) → ((i : ℕ) → get_or bytes i 0 < 256) → sides_test bytes ≡ true
    → rest_test (cells_of (head_of bytes)) bytes ≡ formed bytes
unfolding fields_formed
rest_formed_is bytes small s = sym (ap (λ (b : Bool). b && rest_test (cells_of (head_of bytes)) bytes) s) ∙ formed_is bytes small

refuse_same : (b b' : Bool) (why : Reason) (v v' : Verdict) → b ≡ b' → (b ≡ false → v ≡ v') → refuse_if b why v ≡ refuse_if b' why v'
refuse_same true b' why v v' e f = rw (← e)
refuse_same false b' why v v' e f = rw (← e) (f refl)

then_next : (a b c : Bool) (next : Verdict)
    → and_then (refuse_if a Form (refuse_if b Sides (refuse_if c Form (Ok tt)))) next ≡ refuse_if a Form (refuse_if b Sides (refuse_if c Form next))
then_next true b c next = refl
then_next false true c next = refl
then_next false false true next = refl
then_next false false false next = refl

-- what is left to ask of a record in form before it is opened
abbrev pub cells_check : (bytes : List ℕ) → Verdict
cells_check bytes = refuse_if (any_outside (cells_of (head_of bytes)) (cells_named (head_of bytes))) Outside (Ok tt)

-- What code tests of the bytes alone is what load asks of them ..
pub tests_are : (bytes : List ℕ) → ((i : ℕ) → get_or bytes i 0 < 256) → and_then (form_check bytes) (cells_check bytes) ≡ open_check bytes
unfolding form_check open_check
tests_are bytes small =
    let head = head_of bytes in
    let n = cells_of head in
    let bad = bad_sides head.width head.height in
    then_next (not (sides_test bytes)) bad (not (rest_test n bytes)) (cells_check bytes)
    ∙ refuse_same (not (sides_test bytes)) _ Form _ _ (ap not (sides_formed_is bytes)) (λ s.
    refuse_same bad _ Sides _ _ refl (λ b.
    refuse_same (not (rest_test n bytes)) _ Form _ _ (ap not (rest_formed_is bytes small (not-false (sides_test bytes) s))) (λ r. refl)))

-- .. and then it asks of the lists.
pub both_are : (bytes : List ℕ) (p : Lent) → and_then (open_check bytes) (state_check (head_of bytes) bytes p) ≡ load_check bytes p
unfolding open_check state_check load_check
both_are bytes p =
    let head = head_of bytes in
    go (not (sides_formed bytes)) (bad_sides head.width head.height) (not (formed bytes)) (any_outside (cells_of head) (cells_named head))
    (state_check head bytes p)
  where
    go : (a b c o : Bool) (next : Verdict) → and_then (refuse_if a Form (refuse_if b Sides (refuse_if c Form (refuse_if o Outside (Ok tt))))) next
        ≡ refuse_if a Form (refuse_if b Sides (refuse_if c Form (refuse_if o Outside next)))
    go true b c o next = refl
    go false true c o next = refl
    go false false true o next = refl
    go false false false true next = refl
    go false false false false next = refl
