-- Move.
use Rattle.std.specs.Prelude.{true, false, set, eqb, Ok, Err, Result}
use Rattle.model.specs.Lent.{Lent, lent_with, After, after}
use Rattle.model.specs.Head.{moved_to}
use Rattle.model.specs.Route.{next, stands}
use Rattle.model.specs.Refusals.{acceptance}
use Rattle.model.specs.declared.Head.{Head}
use Rattle.model.specs.declared.Reason.{Reason}
use Rattle.model.specs.declared.Reason.TheVariants.{NoRoute}
use Rattle.model.specs.declared.Step.{Step}
use Rattle.model.specs.declared.Moved.{Moved}

abbrev pub stepped : Head → Result Step Reason → Lent → After Moved
stepped head step p = after (record { head = head; step = step }) p

-- "the cart goes to the linked cell and the link of the cell it left becomes 0"
abbrev pub head_onward : Head → Lent → Head
head_onward head p = moved_to head (next head.width head.height p.link head.cell)

abbrev pub lists_onward : Head → Lent → Lent
lists_onward head p = lent_with p.ground p.learned (set p.link head.cell 0)

-- "on the goal, "arrived" and nothing changes. Where a route stands, .."
unfoldable pub moved : Head → Lent → After Moved
moved head p =
    elim (acceptance head p) [
      | Ok _ ↦ elim (eqb head.cell head.goal) [
        | true ↦ stepped head (Ok Step.Arrived) p
        | false ↦ elim (stands head p) [
          | true ↦ stepped (head_onward head p) (Ok Step.Moved) (lists_onward head p)
          | false ↦ stepped head (Err NoRoute) p
        ]
      ]
      | Err why ↦ stepped head (Err why) p
    ]
