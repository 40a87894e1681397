-- Save and load as calls: what each answers and leaves.
-- Assumes nothing.
use Rattle.std.specs.Prelude.{Ok, Err}
use mathlib.Core.Path.{◌≡◌, refl}
use mathlib.Core.List.{List}
use Prim.Native.Nat.{ℕ, ◌≤◌}
use borrow.Author.Tests.{ltb-false}
use lib.ListN.{length, get_or, take}
use Rattle.model.specs.Lent.{Lent, After, fronted}
use Rattle.model.specs.Head.{no_head, cells_of}
use Rattle.model.specs.Refusals.{too_short, acceptance, changed}
use Rattle.model.specs.Record.{record_length, record_of, head_of, read_into}
use Rattle.model.specs.Store.{AfterSave, saved_as, save_check, saved, load_check, loaded}
use Rattle.model.specs.declared.Head.{Head}
use Rattle.model.specs.declared.Reason.{Reason}
use Rattle.model.specs.Verdict.{Verdict}
use Rattle.model.specs.declared.Changed.{Changed}
use Rattle.model.specs.Fit.{Room, Held}
use Rattle.model.proofs.Calls.Acceptance.{passed, both_passed, accepts_held}
use Rattle.model.proofs.Lists.Fronted.{fronted_front, fronted_long, fronted_rest}
use Rattle.model.proofs.Calls.FirstEntries.{SameEntries}
use Rattle.model.proofs.Record.RecordFields.{record_long}
use Rattle.model.proofs.Record.RecordLaws.{loaded_is, loaded_same}

-- Save ------------------------------------------------------------------------------------------------------------------------------

-- the record stands at the front of the buffer, and after it what stood there
pub record Stored (head : Head) (p : Lent) (before after : List ℕ) : Type 0 where
  pub room : record_length (cells_of head) ≤ length before
  pub front : take (record_length (cells_of head)) after ≡ record_of head p
  pub long : length after ≡ length before
  pub rest : (i d : ℕ) → record_length (cells_of head) ≤ i → get_or after i d ≡ get_or before i d

-- What save answers and leaves, in its two cases.
pub data Saving (head : Head) (p : Lent) (buffer : List ℕ) : AfterSave → Type 0 where
  save_refused : {why : Reason} → save_check head p buffer ≡ Err why
      → Saving head p buffer (record { answer = saved_as head (Err why); buffer = buffer })
  save_wrote : Held head p → Stored head p buffer (fronted (record_of head p) buffer)
      → Saving head p buffer
      (record { answer = saved_as head (Ok (record_length (cells_of head))); buffer = fronted (record_of head p) buffer })

module _ (head : Head) (p : Lent) (buffer : List ℕ) where
  pub save_check_law : save_check head p buffer ≡ Ok tt → Held head p × (record_length (cells_of head) ≤ length buffer)
  unfolding save_check
  save_check_law e =
      let t = both_passed (acceptance head p) _ e in
      (accepts_held head p t.0, ltb-false _ _ (passed (too_short (record_length (cells_of head)) buffer) _ _ t.1).0)

  stored : Held head p → record_length (cells_of head) ≤ length buffer → Stored head p buffer (fronted (record_of head p) buffer)
  stored a r =
      let e = record_long head p a.room in
      record {
        room = r;
        front = rw (← e) (fronted_front (record_of head p) buffer);
        long = fronted_long (record_of head p) buffer (rw e r);
        rest = λ i d l. fronted_rest (record_of head p) buffer i d (rw e l);
      }

  pub save_is : Saving head p buffer (saved head p buffer)
  unfolding saved
  save_is = go _ refl
    where
      go : (v : Verdict) → save_check head p buffer ≡ v → Saving head p buffer (elim v [
        | Ok _ ↦ record {
          answer = saved_as head (Ok (record_length (cells_of head)));
          buffer = fronted (record_of head p) buffer;
        }
        | Err why ↦ record { answer = saved_as head (Err why); buffer = buffer }
      ])
      go (Ok _) e = let t = save_check_law e in save_wrote t.0 (stored t.0 t.1)
      go (Err why) e = save_refused e

-- What was saved reads back: load takes the record's bytes, and gives the head and the entries.
pub saved_reads : {head : Head} {p : Lent} {before after : List ℕ} → Held head p → Stored head p before after → (q : Lent) → Room (cells_of head) q
    → let r = loaded (take (record_length (cells_of head)) after) q in
    (r.answer ≡ changed head (Ok tt)) × SameEntries (cells_of head) p r.lists
saved_reads {head} {p} a s q r =
    rw s.front (rw (loaded_is head p a q r), loaded_same head p a q r)

-- Load ------------------------------------------------------------------------------------------------------------------------------

-- What load answers and leaves, in its two cases.
pub data Loading (bytes : List ℕ) (q : Lent) : After Changed → Type 0 where
  load_refused : {why : Reason} → load_check bytes q ≡ Err why
      → Loading bytes q (record { answer = changed no_head (Err why); lists = q })
  load_read : load_check bytes q ≡ Ok tt
      → Loading bytes q (record { answer = changed (head_of bytes) (Ok tt); lists = read_into (cells_of (head_of bytes)) bytes q })

pub load_is : (bytes : List ℕ) (q : Lent) → Loading bytes q (loaded bytes q)
unfolding loaded
load_is bytes q = go _ refl
  where
    go : (v : Verdict) → load_check bytes q ≡ v → Loading bytes q (elim v [
      | Ok _ ↦ record { answer = changed (head_of bytes) (Ok tt); lists = read_into (cells_of (head_of bytes)) bytes q }
      | Err why ↦ record { answer = changed no_head (Err why); lists = q }
    ])
    go (Ok _) e = load_read e
    go (Err why) e = load_refused e
