-- DEMAND 1, sentence by sentence, over every call and every input (specs/Asking) and the rows of the table (specs/Table).
-- Assumes nothing.
use Rattle.std.specs.Prelude.{Ok, Err}
use mathlib.Core.Path.{◌≡◌, refl, sym, ap, ◌∙◌}
use mathlib.Core.List.{List, []}
use mathlib.Core.Logic.{◌≢◌, ◌↔◌}
use Prim.Native.Nat.{ℕ, ◌+◌}
use native.Mathlib.Omega.{arith}
use lib.ListN.{length, get_or}
use Rattle.model.specs.Lent.{Lent}
use Rattle.model.specs.Route.{route}
use Rattle.model.specs.Listing.{AfterList, listed, list_question}
use Rattle.model.specs.Numbers.{reason_number, verdict_number}
use Rattle.model.specs.declared.Head.{Head}
use Rattle.model.specs.declared.Reason.{Reason}
use Rattle.model.specs.Verdict.{Verdict}
use Rattle.model.proofs.Calls.Acceptance.{not_both}
use Rattle.model.proofs.Calls.ReasonNumbers.{refused_number, some_number}
use Rattle.model.proofs.Calls.ListLaws.{ListingOf, list_refused, list_written, list_is, cells_long, question_exactly}
use Rattle.promises.specs.Asking.{Ask, Result, result, lent, left, number, head_in, head_out}
use Rattle.promises.specs.Table.{Rows}
use Rattle.promises.proofs.VerdictRows.{verdict, follows}
use Rattle.promises.proofs.CallEndings.{CallEnds, accepts, refuses, ends}

-- "Every call takes every input and ends": the definition gives a result for every call and every input, and what a contract
-- allows is that result alone. (That contracts are these equations is said beside each call by its coinciding law; `list`, which
-- hands back a part of its buffer, is excepted there and in docs/PROMISES.md.)
pub every_input_one_result : (a : Ask) → (r : Result a) × (r ≡ result a) × ((r' : Result a) → r' ≡ result a → r' ≡ r)
every_input_one_result a = (result a, refl, λ r' e. e)

-- the number is the verdict's
told : (a : Ask) {v : Verdict} → CallEnds a (result a) v → number a (result a) ≡ verdict_number v
told a (accepts e) = e
told a (refuses e l h) = e

-- "Bad sizes, cells, buffers or records, and learned distances that don't fit the ground, are refused by number": a number is
-- given exactly when its row says so, and no row before it.
pub refused_exactly : (a : Ask) (why : Reason) → (number a (result a) ≡ reason_number why) ↔ Rows a why
refused_exactly a why =
    let n = refused_number (verdict a) why in
    let t = told a (ends a) in
    (λ e. (follows a).given why (n.0 (sym t ∙ e)), λ r. t ∙ n.1 ((follows a).gives why r))

-- and 0, no refusal, exactly when no row is given.
pub accepted_exactly : (a : Ask) → (number a (result a) ≡ 0) ↔ ((why : Reason) → ¬ Rows a why)
accepted_exactly a = (
  λ e why r. absurd (omega (arith, (refused_exactly a why).1 r, some_number why)),
  λ n. told a (ends a) ∙ go (verdict a) refl n,
)
  where
    go : (v : Verdict) → verdict a ≡ v → ((why : Reason) → ¬ Rows a why) → verdict_number v ≡ 0
    go (Ok _) e n = refl
    go (Err why) e n = absurd (n why ((follows a).given why e))

-- "A refusal changes no byte that was lent", and "returns its number and the head as given".
pub refusal_changes_nothing : (a : Ask) → number a (result a) ≢ 0 → (left a (result a) ≡ lent a) × (head_out a (result a) ≡ head_in a)
refusal_changes_nothing a n = go (ends a)
  where
    go : {v : Verdict} → CallEnds a (result a) v → (left a (result a) ≡ lent a) × (head_out a (result a) ≡ head_in a)
    go (accepts e) = absurd (n e)
    go (refuses e l h) = (l, h)

-- a refused list hands back the empty front, and no other does
pub list_refused_exactly : (head : Head) (p : Lent) (buffer : List ℕ) → ((listed head p buffer).front ≡ []) ↔ (list_question head p buffer ≢ 0)
unfolding route
list_refused_exactly head p buffer = (λ e. empty (list_is head p buffer) e, λ n. go (list_is head p buffer) n)
  where
    empty : {r : AfterList} → ListingOf head p buffer r → r.front ≡ [] → list_question head p buffer ≢ 0
    empty (list_refused {why = why} f) e q = absurd (not_both f ((question_exactly head p buffer).0 q))
    empty (list_written f a t l) e q = absurd (omega (arith, ap length e, route_long))
      where
        route_long : length (route head p) ≡ get_or p.learned head.cell 0 + 1
        route_long = cells_long _ _ _ _ _

    go : {r : AfterList} → ListingOf head p buffer r → list_question head p buffer ≢ 0 → r.front ≡ []
    go (list_refused f) n = refl
    go (list_written f a t l) n = absurd (n ((question_exactly head p buffer).1 f))
