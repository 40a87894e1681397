-- Save and load.
use Rattle.std.specs.Prelude.{ℕ, not, List, Ok, Err, Result}
use Rattle.model.specs.Plot.{bad_sides}
use Rattle.model.specs.Lent.{Lent, buffers_of, After, after, fronted}
use Rattle.model.specs.Head.{no_head, cells_of, cells_named}
use Rattle.model.specs.Sound.{sound}
use Rattle.model.specs.Refusals.{refuse_if, and_then, too_short, any_short, any_outside, acceptance, changed}
use Rattle.model.specs.Record.{record_length, record_of, head_of, read_into, sides_formed, formed}
use Rattle.model.specs.declared.Head.{Head}
use Rattle.model.specs.declared.Reason.{Reason}
use Rattle.model.specs.declared.Reason.TheVariants.{Sides, Short, Outside, Unsound, Form}
use Rattle.model.specs.Verdict.{Verdict}
use Rattle.model.specs.declared.Changed.{Changed}
use Rattle.model.specs.declared.Saved.{Saved}

-- an answer, and the bytes lent afterwards
pub record AfterSave : Type 0 where
  pub answer : Saved
  pub buffer : List ℕ

abbrev pub after_save : Saved → List ℕ → AfterSave
after_save answer buffer = record { answer = answer; buffer = buffer }

abbrev pub saved_as : Head → Result ℕ Reason → Saved
saved_as head length = record { head = head; length = length }

-- "the save buffer's [2 comes] after 4"
unfoldable pub save_check : Head → Lent → (buffer : List ℕ) → Verdict
save_check head p buffer =
    and_then (acceptance head p) (refuse_if (too_short (record_length (cells_of head)) buffer) Short (Ok tt))

-- "Save answers the record's length and touches no byte after it"
unfoldable pub saved : Head → Lent → (buffer : List ℕ) → AfterSave
saved head p buffer =
    elim (save_check head p buffer) [
      | Ok _ ↦ record {
        answer = saved_as head (Ok (record_length (cells_of head)));
        buffer = fronted (record_of head p) buffer;
      }
      | Err why ↦ record { answer = saved_as head (Err why); buffer = buffer }
    ]

-- "Load: 8 for the first two fields, 1, 8 for the rest, 3, 2, 4"
unfoldable pub load_check : (bytes : List ℕ) → Lent → Verdict
load_check bytes p =
    let head = head_of bytes in
    let n = cells_of head in
    refuse_if (not (sides_formed bytes)) Form
    (refuse_if (bad_sides head.width head.height) Sides
    (refuse_if (not (formed bytes)) Form
    (refuse_if (any_outside n (cells_named head)) Outside
    (refuse_if (any_short n (buffers_of p)) Short
    (refuse_if (not (sound head (read_into n bytes p))) Unsound (Ok tt))))))

-- "Load checks all before it writes"
unfoldable pub loaded : (bytes : List ℕ) → Lent → After Changed
loaded bytes p =
    elim (load_check bytes p) [
      | Ok _ ↦ after (changed (head_of bytes) (Ok tt)) (read_into (cells_of (head_of bytes)) bytes p)
      | Err why ↦ after (changed no_head (Err why)) p
    ]
