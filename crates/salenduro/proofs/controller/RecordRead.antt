-- What unpack tells a call over a record: it is refused, or the head and the state that the record holds, and they are accepted.
-- Assumes nothing.
use Rattle.std.specs.Prelude.{Result, Ok, Err}
use mathlib.Core.Path.{◌≡◌, refl, sym, ap, ◌∙◌}
use mathlib.Core.List.{List}
use Prim.Native.Nat.{ℕ}
use native.Mathlib.Omega.{arith}
use lib.ListN.{length}
use Rattle.model.specs.Plot.{max_cells}
use Rattle.model.specs.Lent.{Lent, After}
use Rattle.model.specs.Head.{cells_of}
use Rattle.model.specs.Refusals.{changed}
use Rattle.model.specs.Record.{record_length, head_of}
use Rattle.model.specs.Store.{load_check, loaded}
use Rattle.model.specs.Controller.{own_room, state_in}
use Rattle.model.specs.declared.Head.{Head}
use Rattle.model.specs.declared.Reason.{Reason}
use Rattle.model.specs.declared.Changed.{Changed}
use Rattle.model.specs.Fit.{Room, Held}
use Rattle.model.proofs.Calls.Acceptance.{not_both}
use Rattle.model.proofs.Record.RecordLaws.{room_for_law, load_held, load_long}
use Rattle.model.proofs.Record.SaveAndLoad.{Loading, load_read, load_refused, load_is}
use Rattle.record.specs.Load.{Unpacked, answer_of}

-- the head and the lists are what the bytes hold, and load accepts them
pub record Read (bytes : List ℕ) (head : Head) (p : Lent) : Type 0 where
  pub accepted : load_check bytes own_room ≡ Ok tt
  pub heads : head ≡ head_of bytes
  pub states : p ≡ state_in bytes
  pub held : Held head p
  pub long : length bytes ≡ record_length (cells_of head)

-- a call's own lists have room for every plot
pub own_room_law : Room max_cells own_room
own_room_law = room_for_law max_cells max_cells (omega arith)

-- what unpack answers is load's answer
module _ (bytes : List ℕ) {answer : Changed} {p : Lent} (e : Unpacked bytes own_room answer p) where
  verdicts : {a : After Changed} → loaded bytes own_room ≡ a → answer.verdict ≡ a.answer.verdict
  verdicts q = ap (λ (r : Changed). r.verdict) e.answers ∙ ap (λ (a : After Changed). a.answer.verdict) q

  refused : {why : Reason} → answer.verdict ≡ Err why → load_check bytes own_room ≡ Err why
  refused {why} r = go (load_is bytes own_room) refl
    where
      go : {a : After Changed} → Loading bytes own_room a → loaded bytes own_room ≡ a → load_check bytes own_room ≡ Err why
      go (load_refused f) q = f ∙ sym (verdicts q) ∙ r
      go (load_read f) q = absurd (not_both r (verdicts q))

  accepted : answer.verdict ≡ Ok tt → Read bytes answer.head p
  accepted r = go (load_is bytes own_room) refl
    where
      go : {a : After Changed} → Loading bytes own_room a → loaded bytes own_room ≡ a → Read bytes answer.head p
      go (load_refused f) q = absurd (not_both (verdicts q) r)
      go (load_read f) q =
          let h : answer.head ≡ head_of bytes = ap (λ (r : Changed). r.head) (e.answers ∙ ap (λ (a : After Changed). a.answer) q) in
          let s : p ≡ state_in bytes = e.reads r ∙ ap (λ (a : After Changed). a.lists) q in
          record { accepted = f; heads = h; states = s; held = rw (h, s) (load_held bytes own_room f); long = rw h (load_long bytes own_room f) }

module _ (bytes : List ℕ) {read : Result Head Reason} {p : Lent} (e : Unpacked bytes own_room (answer_of read) p) where
  pub unread : {why : Reason} → read ≡ Err why → load_check bytes own_room ≡ Err why
  unread q = refused bytes e (ap (λ (r : Result Head Reason). (answer_of r).verdict) q)

  pub was_read : {head : Head} → read ≡ Ok head → Read bytes head p
  was_read {head} q = accepted bytes {answer = changed head (Ok tt)} (rw q at e) refl
