-- List the route, and its question.
use Rattle.std.specs.Prelude.{ℕ, not, List, [], length, Ok, Err}
use Rattle.model.specs.Lent.{Lent, fronted}
use Rattle.model.specs.Route.{stands, route}
use Rattle.model.specs.Refusals.{refuse_if, and_then, too_short, acceptance}
use Rattle.model.specs.Numbers.{verdict_number}
use Rattle.model.specs.declared.Head.{Head}
use Rattle.model.specs.declared.Reason.TheVariants.{Short, NoRoute}
use Rattle.model.specs.Verdict.{Verdict}

-- the filled front of the buffer, and the buffer afterwards
pub record AfterList : Type 0 where
  pub front : List ℕ
  pub buffer : List ℕ

-- "the list buffer's 2 comes after 6"
unfoldable pub list_check : Head → Lent → (buffer : List ℕ) → Verdict
list_check head p buffer =
    and_then (acceptance head p)
    (refuse_if (not (stands head p)) NoRoute
    (refuse_if (too_short (length (route head p)) buffer) Short (Ok tt)))

-- "Refused: the empty front, nothing written"
unfoldable pub listed : Head → Lent → (buffer : List ℕ) → AfterList
listed head p buffer =
    elim (list_check head p buffer) [
      | Ok _ ↦ record { front = route head p; buffer = fronted (route head p) buffer }
      | Err why ↦ record { front = []; buffer = buffer }
    ]

-- "gives the refusal's number, or 0 where list would write"
unfoldable pub list_question : Head → Lent → (buffer : List ℕ) → ℕ
list_question head p buffer = verdict_number (list_check head p buffer)
