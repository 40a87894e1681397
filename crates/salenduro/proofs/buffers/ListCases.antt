-- List over a host's buffers in equations, which `grind` reads, so that its body is judged with no file of answers: by what the call says of its
-- list, or by what the question and the core say. (No code goes by the second today; a body that asks first is judged by it, as the wrong program
-- `buffers_list_not_asked`.) Assumes nothing.
use Rattle.std.specs.Prelude.{Result, Ok, Err}
use mathlib.Core.Path.{◌≡◌, refl, sym, ap, ◌∙◌}
use mathlib.Core.List.{List}
use mathlib.Core.Logic.{◌≢◌}
use Prim.Native.Nat.{ℕ, ◌+◌, ◌≤◌, ◌<◌}
use native.Mathlib.Omega.{arith}
use borrow.Author.Tests.{lt-ltb}
use lib.ListN.{length}
use Rattle.model.specs.Numbers.{reason_number, verdict_number, length_verdict, refusal, given_number}
use Rattle.model.specs.Lent.{Lent, fronted}
use Rattle.model.specs.Route.{route}
use Rattle.model.specs.Listing.{list_check, listed, list_question}
use Rattle.model.specs.declared.Head.{Head}
use Rattle.model.specs.declared.Reason.{Reason}
use Rattle.model.specs.declared.Reason.TheVariants.{Short}
use Rattle.model.specs.Verdict.{Verdict}
use Rattle.model.proofs.Calls.ListLaws.{question_exactly}
use Rattle.calls.specs.Counted.{Counted, front_of, count_in}
use Rattle.calls.proofs.list.ListCases.{route_long}
use Rattle.calls.proofs.list.ListCounts.{count_none, count_filled}
use Rattle.salenduro.specs.Heads.{head_size, head_in}
use Rattle.salenduro.specs.Buffers.{after_host_fill, listed_host}
use Rattle.salenduro.proofs.AnswersFit.{list_few, list_fits, question_fits}
use Rattle.salenduro.proofs.buffers.BufferCases.{list_called}

pub listed_short : (head : List ℕ) (p : Lent) (buffer : List ℕ) → length head < head_size → listed_host head p buffer ≡ after_host_fill (refusal Short) buffer
unfolding listed_host
listed_short head p buffer few = rw (listed_host, lt-ltb (length head) head_size few)

-- n is what the question says of the head that is read
module _ (from : Head) (p : Lent) (buffer : List ℕ) {n : ℕ} (asked : n ≡ list_question from p buffer) where
  question_why : {why : Reason} → list_check from p buffer ≡ Err why → n ≡ reason_number why
  unfolding list_question
  question_why e = asked ∙ ap verdict_number e

  pub question_accepts : n ≡ 0 → list_check from p buffer ≡ Ok tt
  question_accepts none = (question_exactly from p buffer).0 (sym asked ∙ none)

  -- k is how many cells its route has
  pub route_fits : {k : ℕ} → n ≡ 0 → k ≡ length (route from p) → k < 4294967296
  route_fits none e = omega (arith, e, route_long from p, list_few from p buffer (question_accepts none))

module _ (head : List ℕ) (p : Lent) (buffer : List ℕ) (enough : head_size ≤ length head) {from : Head} (read : from ≡ head_in head) where
  -- r is what the call answers, and l the buffer afterwards
  pub listed_called : (r : Result ℕ Reason) {l : List ℕ} → length_verdict r ≡ list_check from p buffer → count_in r ≡ length (listed from p buffer).front
      → front_of (count_in r) l ≡ listed from p buffer → {n : ℕ} → n ≡ given_number r → listed_host head p buffer ≡ after_host_fill n l
  listed_called r v count leaves e = sym (list_called head p buffer enough read r v (record { count = count; leaves = leaves }) e)

  -- n is what the question says, and k and l what the core answers and leaves
  module _ {n : ℕ} (asked : n ≡ list_question from p buffer) where
    pub listed_asked : {k : ℕ} {l : List ℕ} → n ≡ 0 → k ≡ length (route from p) → l ≡ fronted (route from p) buffer
        → listed_host head p buffer ≡ after_host_fill k l
    listed_asked {k} {l} none e is =
        let ok = question_accepts from p buffer asked none in
        let c : Counted from p buffer k l = count_filled from p buffer ok (record { count = e; is = is }) in
        sym (list_called head p buffer enough read (Ok k) (sym ok) c refl)

    pub listed_refused : n ≢ 0 → listed_host head p buffer ≡ after_host_fill (70000 + n) buffer
    listed_refused some = go _ refl
      where
        go : (v : Verdict) → list_check from p buffer ≡ v → listed_host head p buffer ≡ after_host_fill (70000 + n) buffer
        go (Ok _) e = absurd (some (asked ∙ (question_exactly from p buffer).1 e))
        go (Err why) e =
            sym (list_called head p buffer enough read (Err why) (sym e) (count_none from p buffer refl e)
            (ap (λ (m : ℕ). 70000 + m) (question_why from p buffer asked e)))

pub ruleset list_cases = (listed_short, listed_called, listed_asked, listed_refused, question_accepts, question_fits, route_fits, list_fits)
