-- A cart in use: its head and what it holds, and the calls between which it is driven.
use Rattle.std.specs.Prelude.{List, [], ◌∷◌, ◌≡◌, ℕ, ◌<◌, get_or}
use Rattle.model.specs.Lent.{Lent, Scratch}
use Rattle.model.specs.Head.{cells_of}
use Rattle.model.specs.Layout.{laid_out}
use Rattle.model.specs.Report.{reported}
use Rattle.model.specs.Plan.{planned}
use Rattle.model.specs.Move.{moved}
use Rattle.model.specs.Ways.{Accepts}
use Rattle.model.specs.declared.Head.{Head}

pub record Cart : Type 0 where
  pub head : Head
  pub held : Lent

abbrev pub cart_with : Head → Lent → Cart
cart_with head p = record { head = head; held = p }

-- the cart's data are accepted
abbrev pub Fits : Cart → Type 0
Fits k = Accepts k.head k.held

-- "reports, plans and moves, in any order"; a plan is lent any scratch
pub data Call : Type 0 where
  report : (c : ℕ) → Call
  plan : Scratch → Call
  move : Call

-- the cart after a call, whether it was accepted or refused
abbrev pub next : Cart → Call → Cart
next k (report c) = let r = reported k.head k.held c in cart_with r.answer.head r.lists
next k (plan s) = let r = planned k.head k.held s in cart_with r.answer.head r.lists
next k move = let r = moved k.head k.held in cart_with r.answer.head r.lists

-- and after calls, the first of the list first
unfoldable pub after_all : Cart → List Call → Cart
after_all k [] = k
after_all k (call ∷ calls) = after_all (next k call) calls

-- the cart that a layout sets out
abbrev pub laid : (w h start goal : ℕ) → Lent → Cart
laid w h start goal p = let r = laid_out w h start goal p in cart_with r.answer.head r.lists

-- the learned distance of cell x
abbrev pub learnt : Cart → (x : ℕ) → ℕ
learnt k x = get_or k.held.learned x 0

-- "the same .. known ground"
abbrev pub SameGround : Head → (p q : Lent) → Type 0
SameGround head p q = (c : ℕ) → c < cells_of head → get_or p.ground c 0 ≡ get_or q.ground c 0
