-- Load's checks in two steps, of the bytes alone and of the lists (together they are `load_check`: proofs/load/LoadTests, `both_are`);
-- and what `unpack` promises.
use Rattle.std.specs.Prelude.{◌≡◌, not, List, ℕ, length, Result, Ok, Err}
use Rattle.model.specs.Plot.{bad_sides}
use Rattle.model.specs.Lent.{Lent, buffers_of}
use Rattle.model.specs.Head.{no_head, cells_of, cells_named}
use Rattle.model.specs.Fit.{Placed}
use Rattle.model.specs.Sound.{sound}
use Rattle.model.specs.Refusals.{refuse_if, any_short, any_outside, changed}
use Rattle.model.specs.Record.{record_length, head_of, read_into, sides_formed, formed}
use Rattle.model.specs.Store.{loaded}
use Rattle.model.specs.declared.Head.{Head}
use Rattle.model.specs.declared.Reason.{Reason}
use Rattle.model.specs.declared.Reason.TheVariants.{Sides, Short, Outside, Unsound, Form}
use Rattle.model.specs.Verdict.{Verdict}
use Rattle.model.specs.declared.Changed.{Changed}

-- "8 for the first two fields, 1, 8 for the rest, 3, ..": what is asked of the bytes alone
unfoldable pub open_check : (bytes : List ℕ) → Verdict
open_check bytes =
    let head = head_of bytes in
    refuse_if (not (sides_formed bytes)) Form
    (refuse_if (bad_sides head.width head.height) Sides
    (refuse_if (not (formed bytes)) Form
    (refuse_if (any_outside (cells_of head) (cells_named head)) Outside (Ok tt))))

-- ".. 2, 4": what is asked of the lists that the state is read into
unfoldable pub state_check : Head → (bytes : List ℕ) → Lent → Verdict
state_check head bytes p =
    refuse_if (any_short (cells_of head) (buffers_of p)) Short
    (refuse_if (not (sound head (read_into (cells_of head) bytes p))) Unsound (Ok tt))

-- the head that the bytes hold, or why they are refused
abbrev pub headed : (bytes : List ℕ) → Verdict → Result Head Reason
headed bytes (Ok _) = Ok (head_of bytes)
headed bytes (Err why) = Err why

-- load's answer for it: with a refusal goes the head of zeros
abbrev pub answer_of : Result Head Reason → Changed
answer_of (Ok head) = changed head (Ok tt)
answer_of (Err why) = changed no_head (Err why)

-- what `open_check` leaves: a head on a plot of good sides, and as many bytes as a record of so many cells has
pub record Opened (head : Head) (bytes : List ℕ) : Type 0 where
  pub placed : Placed head.width head.height head.goal head.cell
  pub long : length bytes ≡ record_length (cells_of head)

-- What `unpack` answers and leaves in lists p: load's answer, and load's lists once it is accepted.
pub record Unpacked (bytes : List ℕ) (p : Lent) (answer : Changed) (lists : Lent) : Type 0 where
  pub answers : answer ≡ (loaded bytes p).answer
  pub reads : answer.verdict ≡ Ok tt → lists ≡ (loaded bytes p).lists
