-- The calls over a host's buffers, case by case: a short head array is refused; else the call's own answer is told as a number,
-- and the head array set. Every number fits 32 bits. Assumes nothing.
use Rattle.std.specs.Prelude.{Result, Ok, Err}
use mathlib.Core.Path.{◌≡◌, sym, ap}
use mathlib.Core.List.{List}
use Prim.Native.Nat.{ℕ, ◌≤◌, ◌<◌}
use borrow.Author.Tests.{lt-ltb, le-ltb}
use lib.ListN.{length}
use Rattle.model.specs.Numbers.{length_verdict, refusal, changed_answer, plan_answer, move_answer, given_number}
use Rattle.model.specs.Lent.{Lent, Scratch, After, after}
use Rattle.model.specs.Report.{reported}
use Rattle.model.specs.Plan.{after_plan, planned}
use Rattle.model.specs.Move.{moved}
use Rattle.model.specs.Listing.{AfterList, list_check, listed, list_question}
use Rattle.model.specs.Store.{after_save, saved}
use Rattle.model.specs.declared.Head.{Head}
use Rattle.model.specs.declared.Reason.{Reason}
use Rattle.model.specs.declared.Reason.TheVariants.{Short}
use Rattle.model.specs.declared.Changed.{Changed}
use Rattle.model.specs.declared.Planned.{Planned}
use Rattle.model.specs.declared.Moved.{Moved}
use Rattle.model.specs.declared.Saved.{Saved}
use Rattle.calls.specs.Counted.{Counted, count_in}
use Rattle.salenduro.specs.Heads.{head_size, head_in, head_set}
use Rattle.salenduro.specs.Buffers.{unless_short, AfterHost, AfterHostPlan, AfterHostFill, after_host, after_host_plan, after_host_fill, headed}
use Rattle.salenduro.specs.Buffers.{count_after, cell_after, reported_host, planned_host, moved_host, listed_host, question_host, saved_host}

-- Refused for a short head array ---------------------------------------------------------------------------------------------------

-- n is the refusal's number, and y what the call would answer and leave
module _ (head : List ℕ) (p : Lent) {n : ℕ} (e : n ≡ refusal Short) (few : length head < head_size) where
  pub host_short : (y : AfterHost) → after_host n head p ≡ unless_short head (after_host (refusal Short) head p) y
  host_short y = rw (lt-ltb (length head) head_size few, e)

  pub plan_short : (s : Scratch) (y : AfterHostPlan) → after_host_plan n head p s ≡ unless_short head (after_host_plan (refusal Short) head p s) y
  plan_short s y = rw (lt-ltb (length head) head_size few, e)

pub fill_short : (head buffer : List ℕ) {n : ℕ} → n ≡ refusal Short → length head < head_size → (y : AfterHostFill)
    → after_host_fill n buffer ≡ unless_short head (after_host_fill (refusal Short) buffer) y
fill_short head buffer e few y = rw (lt-ltb (length head) head_size few, e)

-- Called --------------------------------------------------------------------------------------------------------------------------

-- layout and load: a is what the call leaves, and `put` what stands in the head array afterwards
pub headed_called : (head : List ℕ) (x : AfterHost) (a : After Changed) {n : ℕ} {put : List ℕ} {r : Changed} {q : Lent} → head_size ≤ length head
    → after r q ≡ a → put ≡ head_set r head → n ≡ changed_answer r.verdict → after_host n put q ≡ unless_short head x (headed head a)
headed_called head x a enough d e f = rw (le-ltb (length head) head_size enough, ← d, e, f)

-- n is the number of the call's own answer r
module _ (head : List ℕ) (p : Lent) (enough : head_size ≤ length head) {n : ℕ} where
  -- of the head that is read out of the array
  module _ {from : Head} (read : from ≡ head_in head) where
    pub report_called : (c : ℕ) {r : Changed} {q : Lent} → after r q ≡ reported from p c → n ≡ changed_answer r.verdict
        → after_host n head q ≡ reported_host head p c
    unfolding reported_host
    report_called c d f = rw (reported_host, le-ltb (length head) head_size enough, ← read, ← d, f)

    pub plan_called : (s : Scratch) {put : List ℕ} {r : Planned} {q : Lent} {t : Scratch} → after_plan r q t ≡ planned from p s
        → put ≡ count_after r head → n ≡ plan_answer r.outcome → after_host_plan n put q t ≡ planned_host head p s
    unfolding planned_host
    plan_called s d e f = rw (planned_host, le-ltb (length head) head_size enough, ← read, ← d, e, f)

    pub move_called : {put : List ℕ} {r : Moved} {q : Lent} → after r q ≡ moved from p → put ≡ cell_after r head
        → n ≡ move_answer r.head.cell r.step → after_host n put q ≡ moved_host head p
    unfolding moved_host
    move_called d e f = rw (moved_host, le-ltb (length head) head_size enough, ← read, ← d, e, f)

    pub save_called : (bytes : List ℕ) {r : Saved} {bytes' : List ℕ} → after_save r bytes' ≡ saved from p bytes → n ≡ given_number r.length
        → after_host_fill n bytes' ≡ saved_host head p bytes
    unfolding saved_host
    save_called bytes d f = rw (saved_host, le-ltb (length head) head_size enough, ← read, ← d, f)

-- The question ------------------------------------------------------------------------------------------------------------------------

module _ (head : List ℕ) (p : Lent) (buffer : List ℕ) where
  pub question_short : length head < head_size → question_host head p buffer ≡ 2
  unfolding question_host
  question_short few = rw (question_host, lt-ltb (length head) head_size few)

  pub question_called : head_size ≤ length head → question_host head p buffer ≡ list_question (head_in head) p buffer
  unfolding question_host
  question_called enough = rw (question_host, le-ltb (length head) head_size enough)

-- List, by what its count says: r is that answer, and l the buffer afterwards
module _ (head : List ℕ) (p : Lent) (buffer : List ℕ) (enough : head_size ≤ length head) {from : Head} (read : from ≡ head_in head) where
  left : {k : ℕ} {l : List ℕ} → Counted from p buffer k l → (listed from p buffer).buffer ≡ l
  left c = ap (λ (a : AfterList). a.buffer) (sym c.leaves)

  pub list_called : (r : Result ℕ Reason) {l : List ℕ} → length_verdict r ≡ list_check from p buffer → Counted from p buffer (count_in r) l
      → {n : ℕ} → n ≡ given_number r → after_host_fill n l ≡ listed_host head p buffer
  unfolding listed_host
  list_called (Ok k) v c e = rw (listed_host, le-ltb (length head) head_size enough, ← read, ← v, left c, ← c.count, e)
  list_called (Err why) v c e = rw (listed_host, le-ltb (length head) head_size enough, ← read, ← v, left c, e)
