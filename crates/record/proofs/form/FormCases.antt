-- At each answer of form's checks, the tests that led there decide it; and what the tests leave.
-- Assumes nothing.
use Rattle.std.specs.Prelude.{Ok, Err}
use mathlib.Core.Path.{◌≡◌, sym, ap₂, ◌∙◌}
use mathlib.Core.Bool.{Bool, true, false, not}
use mathlib.Core.List.{List}
use Prim.Native.Nat.{ℕ, ◌*◌, ◌≤◌}
use borrow.Author.Tests.{leb-true, eqb-true, not-false}
use lib.Dec.{leb, eqb}
use lib.ListN.{length}
use Rattle.model.specs.Plot.{bad_sides}
use Rattle.model.specs.Head.{cells_of}
use Rattle.model.specs.Record.{width_at, height_at, goal_at, record_length, byte_of, head_of}
use Rattle.model.specs.declared.Reason.TheVariants.{Sides, Form}
use Rattle.model.specs.Verdict.{Verdict}
use Rattle.model.proofs.Lists.Bools.{and_left}
use Rattle.model.proofs.Calls.Acceptance.{passed}
use Rattle.record.specs.Form.{sides_test, rest_test, form_check, Formed}
use Rattle.record.proofs.form.PartsRead.{from, width_by, height_by}

pub sides_long : (bytes : List ℕ) → sides_test bytes ≡ true → goal_at ≤ length bytes
unfolding sides_test
sides_long bytes e = leb-true goal_at (length bytes) (and_left (leb goal_at (length bytes)) _ e)

rest_long : (n : ℕ) (bytes : List ℕ) → rest_test n bytes ≡ true → length bytes ≡ record_length n
unfolding rest_test
rest_long n bytes e = eqb-true (length bytes) (record_length n) (and_left (eqb (length bytes) (record_length n)) _ e)

module _ (bytes : List ℕ) {s : Bool} (e : s ≡ sides_test bytes) where
  pub form_first : s ≡ false → Err Form ≡ form_check bytes
  unfolding form_check
  form_first f = rw (sym e ∙ f)

  module _ {w h : ℕ} {b : Bool} (t : s ≡ true) (p : w ≡ byte_of (from bytes width_at) 0) (q : h ≡ byte_of (from bytes height_at) 0)
      (d : b ≡ bad_sides w h) where
    sides_read : b ≡ bad_sides (head_of bytes).width (head_of bytes).height
    sides_read = d ∙ ap₂ bad_sides (width_by bytes p) (height_by bytes q)

    pub form_sides : b ≡ true → Err Sides ≡ form_check bytes
    unfolding form_check
    form_sides u = rw (sym e ∙ t, sym sides_read ∙ u)

    module _ {r : Bool} (u : b ≡ false) (f : r ≡ rest_test (w * h) bytes) where
      rest_read : r ≡ rest_test (cells_of (head_of bytes)) bytes
      rest_read = f ∙ ap₂ (λ (x y : ℕ). rest_test (x * y) bytes) (width_by bytes p) (height_by bytes q)

      pub form_rest : r ≡ false → Err Form ≡ form_check bytes
      unfolding form_check
      form_rest v = rw (sym e ∙ t, sym sides_read ∙ u, sym rest_read ∙ v)

      pub form_passed : r ≡ true → (Ok tt) ≡ form_check bytes
      unfolding form_check
      form_passed v = rw (sym e ∙ t, sym sides_read ∙ u, sym rest_read ∙ v)

pub form_formed : (bytes : List ℕ) {v : Verdict} → v ≡ form_check bytes → v ≡ Ok tt → Formed (head_of bytes) bytes
unfolding form_check
form_formed bytes e f =
    let a = passed (not (sides_test bytes)) _ _ (sym e ∙ f) in
    let b = passed (bad_sides (head_of bytes).width (head_of bytes).height) _ _ a.1 in
    let c = passed (not (rest_test (cells_of (head_of bytes)) bytes)) _ _ b.1 in
    record { sides = b.0; long = rest_long (cells_of (head_of bytes)) bytes (not-false _ c.0) }
