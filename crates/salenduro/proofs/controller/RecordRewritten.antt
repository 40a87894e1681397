-- What a call over a record answers and leaves, in its three cases; and that a record may be rewritten where it stands.
-- Assumes nothing.
use Rattle.std.specs.Prelude.{Ok, Err}
use mathlib.Core.Path.{◌≡◌, ap, ◌∙◌}
use mathlib.Core.List.{List, ◌++◌, append-nil}
use Prim.Native.Nat.{ℕ}
use native.Mathlib.Omega.{arith}
use borrow.Author.Tests.{le-ltb}
use lib.ListN.{length, drop_of_length-le}
use Rattle.model.specs.Lent.{Lent, fronted}
use Rattle.model.specs.Head.{cells_of}
use Rattle.model.specs.Numbers.{refusal}
use Rattle.model.specs.Record.{record_length, record_of}
use Rattle.model.specs.Store.{load_check, save_check}
use Rattle.model.specs.Controller.{own_room, after_c, on_record}
use Rattle.model.specs.declared.Head.{Head}
use Rattle.model.specs.declared.Reason.{Reason}
use Rattle.model.specs.Verdict.{Verdict}
use Rattle.model.specs.Fit.{Held}
use Rattle.model.proofs.Calls.Acceptance.{held_accepts}
use Rattle.model.proofs.Record.RecordFields.{record_long}

module _ (bytes : List ℕ) (verdict : Verdict) (answer : ℕ) (head : Head) (p : Lent) where
  -- n is the number of a refusal, by load's checks or by the call's own
  pub record_unread : {n : ℕ} {why : Reason} → n ≡ refusal why → load_check bytes own_room ≡ Err why
      → after_c n bytes ≡ on_record bytes verdict answer head p
  unfolding on_record
  record_unread k e = rw (on_record, e, k)

  pub record_undone : {n : ℕ} {why : Reason} → n ≡ refusal why → load_check bytes own_room ≡ Ok tt → verdict ≡ Err why → answer ≡ refusal why
      → after_c n bytes ≡ on_record bytes verdict answer head p
  unfolding on_record
  record_undone k e f a = rw (on_record, e, f, a, k)

  pub record_done : load_check bytes own_room ≡ Ok tt → verdict ≡ Ok tt → after_c answer (record_of head p) ≡ on_record bytes verdict answer head p
  unfolding on_record
  record_done e f = rw (on_record, e, f)

-- accepted data go into bytes that are as long as their record ..
module _ (head : Head) (p : Lent) (bytes : List ℕ) (a : Held head p) (l : length bytes ≡ record_length (cells_of head)) where
  pub may_write : save_check head p bytes ≡ Ok tt
  unfolding save_check
  may_write = rw (save_check, held_accepts head p a, le-ltb (length bytes) (record_length (cells_of head)) (omega (arith, l)))

  -- .. and these are then the record
  pub all_written : {after : List ℕ} → after ≡ fronted (record_of head p) bytes → after ≡ record_of head p
  all_written e =
      e
      ∙ ap (λ (rest : List ℕ). record_of head p ++ rest)
      (drop_of_length-le bytes {i = length (record_of head p)} (omega (arith, record_long head p a.room, l)))
      ∙ append-nil (record_of head p)
