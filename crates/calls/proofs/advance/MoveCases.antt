-- What accepted data give to a walk along links, and move's answer in each of its cases.
-- Assumes nothing.
use Rattle.std.specs.Prelude.{Ok, Err}
use mathlib.Core.Path.{◌≡◌, sym, ap, ◌∙◌}
use mathlib.Core.Logic.{◌≢◌}
use mathlib.Core.Bool.{Bool, true, false}
use Prim.Native.Nat.{ℕ}
use borrow.Author.Tests.{eq-eqb, ne_eqb}
use Rattle.model.specs.Lent.{Lent}
use Rattle.model.specs.Head.{moved_to}
use Rattle.model.specs.Route.{next, stands}
use Rattle.model.specs.Move.{stepped, lists_onward, moved}
use Rattle.model.specs.Ways.{Accepts}
use Rattle.model.specs.declared.Head.{Head}
use Rattle.model.specs.declared.Reason.TheVariants.{NoRoute}
use Rattle.model.specs.declared.Step.{Step}
use Rattle.model.proofs.Calls.Acceptance.{accepts_held}
use Rattle.grid.specs.Walkable.{Walkable}

module _ (head : Head) (p : Lent) (a : Accepts head p) where
  pub accepts_walkable : Walkable head.width head.height head.cell p.learned p.link
  accepts_walkable =
      let t = accepts_held head p a in
      record { sides = t.placed.sides; inside = t.placed.cart_on; learneds = t.room.learneds; links = t.room.links }

  pub move_there : head.cell ≡ head.goal → stepped head (Ok Step.Arrived) p ≡ moved head p
  unfolding moved
  move_there e = rw (a, moved, eq-eqb head.cell head.goal e)

  pub move_lost : (s : Bool) → head.cell ≢ head.goal → s ≡ stands head p → s ≡ false → stepped head (Err NoRoute) p ≡ moved head p
  unfolding moved
  move_lost s away e no-route = rw (a, moved, ne_eqb head.cell head.goal away, sym e ∙ no-route)

  -- x is the cell that the link leads to, and moved_on the head there
  pub move_goes : (s : Bool) (x : ℕ) (moved_on : Head) → head.cell ≢ head.goal → s ≡ stands head p → s ≡ true
      → x ≡ next head.width head.height p.link head.cell → moved_on ≡ moved_to head x
      → stepped moved_on (Ok Step.Moved) (lists_onward head p) ≡ moved head p
  unfolding moved
  move_goes s x moved_on away e stood lands goes =
      rw (a, moved, ne_eqb head.cell head.goal away, sym e ∙ stood)
      (ap (λ (y : Head). stepped y (Ok Step.Moved) (lists_onward head p)) (goes ∙ ap (moved_to head) lands))
