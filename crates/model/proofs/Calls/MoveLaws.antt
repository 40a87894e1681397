-- Move: the cart comes one step nearer, the rest of its route stands, and the data stay sound.
-- Assumes nothing.
use Rattle.std.specs.Prelude.{Ok, Err}
use mathlib.Core.Path.{◌≡◌, refl, ◌∙◌}
use mathlib.Core.Logic.{◌≢◌}
use mathlib.Core.Bool.{Bool, true, false}
use Prim.Native.Nat.{ℕ, ◌+◌, ◌<◌}
use native.Mathlib.Decide.{ℕ_discrete}
use native.Mathlib.Omega.{arith}
use borrow.Author.Tests.{eqb-true, eqb-false}
use lib.Dec.{eqb}
use lib.ListN.{get_or, set, length-set}
use lib.Seq.{get_or-set_same, get_or-set_other}
use Rattle.walks.proofs.Routes.{First, first_step, route_leave}
use Rattle.model.specs.Lent.{Lent, After}
use Rattle.model.specs.Head.{cells_of}
use Rattle.model.specs.Route.{stands}
use Rattle.model.specs.Refusals.{acceptance}
use Rattle.model.specs.Move.{stepped, head_onward, lists_onward, moved}
use Rattle.model.specs.Ways.{Accepts, Shortest}
use Rattle.model.specs.declared.Head.{Head}
use Rattle.model.specs.declared.Reason.{Reason}
use Rattle.model.specs.declared.Reason.TheVariants.{NoRoute}
use Rattle.model.specs.Verdict.{Verdict}
use Rattle.model.specs.declared.Step.{Step}
use Rattle.model.specs.declared.Moved.{Moved}
use Rattle.model.proofs.Grid.Geometry.{leg_inside, leg_free}
use Rattle.model.specs.Fit.{Linked, Held}
use Rattle.model.proofs.Calls.Acceptance.{not_both, accepts_held, held_accepts}
use Rattle.model.proofs.Grid.Views.{at, Link}
use Rattle.model.proofs.Grid.RouteLaws.{RouteOn, leads_stands, route_leads, route_fewest}
use Rattle.model.proofs.Search.Trail.{relinked_at}

-- What move answers and leaves, in its four cases.
pub data Moving (head : Head) (p : Lent) : After Moved → Type 0 where
  move_refused : {why : Reason} → acceptance head p ≡ Err why → Moving head p (stepped head (Err why) p)
  move_there : Held head p → head.cell ≡ head.goal → Moving head p (stepped head (Ok Step.Arrived) p)
  move_lost : Held head p → head.cell ≢ head.goal → stands head p ≡ false → Moving head p (stepped head (Err NoRoute) p)
  move_went : Held head p → head.cell ≢ head.goal → stands head p ≡ true
      → Moving head p (stepped (head_onward head p) (Ok Step.Moved) (lists_onward head p))

pub move_is : (head : Head) (p : Lent) → Moving head p (moved head p)
unfolding moved
move_is head p = go _ refl
  where
    go : (v : Verdict) → acceptance head p ≡ v → Moving head p (elim v [
      | Ok _ ↦ elim (eqb head.cell head.goal) [
        | true ↦ stepped head (Ok Step.Arrived) p
        | false ↦ elim (stands head p) [
          | true ↦ stepped (head_onward head p) (Ok Step.Moved) (lists_onward head p)
          | false ↦ stepped head (Err NoRoute) p
        ]
      ]
      | Err why ↦ stepped head (Err why) p
    ])
    go (Ok _) e = on _ _ refl refl
      where
        on : (b c : Bool) → eqb head.cell head.goal ≡ b → stands head p ≡ c → Moving head p (elim b [
          | true ↦ stepped head (Ok Step.Arrived) p
          | false ↦ elim c [
            | true ↦ stepped (head_onward head p) (Ok Step.Moved) (lists_onward head p)
            | false ↦ stepped head (Err NoRoute) p
          ]
        ])
        on true c q r = move_there (accepts_held head p e) (eqb-true _ _ q)
        on false true q r = move_went (accepts_held head p e) (eqb-false _ _ q) r
        on false false q r = move_lost (accepts_held head p e) (eqb-false _ _ q) r
    go (Err why) e = move_refused e

-- A step along a standing route.
module _ (head : Head) (p : Lent) (a : Held head p) (d : head.cell ≢ head.goal) (t : stands head p ≡ true) where
  -- the cell that the cart goes to
  abbrev onward : ℕ
  onward = (head_onward head p).cell

  route_here : RouteOn head.width head.height head.goal p head.cell (at p.learned head.cell)
  route_here = leads_stands p a.fit head.cell a.placed.cart_on t

  step_here : First (Link head.width head.height p.ground p.link) (at p.learned) head.goal head.cell
      (at p.learned head.cell)
  step_here = first_step route_here d

  next_is : onward ≡ step_here.next
  next_is = step_here.relinked.lands

  next_way : Link head.width head.height p.ground p.link head.cell onward
  next_way = rw next_is step_here.relinked

  pub next_lower : at p.learned head.cell ≡ at p.learned onward + 1
  next_lower = rw next_is step_here.falls

  links_left : (c : ℕ) → c < cells_of head → get_or (set p.link head.cell 0) c 0 ≢ 0
      → Linked head.width head.height head.goal p.ground (set p.link head.cell 0) c
  links_left c i n = go (ℕ_discrete c head.cell)
    where
      go : Dec (c ≡ head.cell) → Linked head.width head.height head.goal p.ground (set p.link head.cell 0) c
      go (yes e) = absurd (n (rw e (get_or-set_same p.link head.cell 0 0 (omega (arith, a.room.links, a.placed.cart_on)))))
      go (no q) =
          let k = get_or-set_other p.link head.cell c 0 0 q in
          relinked_at p.link (set p.link head.cell 0) k (a.fit.links c i (λ z. n (k ∙ z)))

  -- the data stay accepted
  pub moved_held : Held (head_onward head p) (lists_onward head p)
  moved_held = record {
    placed = record {
      sides = a.placed.sides;
      wide = a.placed.wide;
      high = a.placed.high;
      few = a.placed.few;
      goal_on = a.placed.goal_on;
      cart_on = leg_inside next_way;
    };
    room = record { grounds = a.room.grounds; learneds = a.room.learneds; links = rw length-set a.room.links };
    fit = record {
      ground = a.fit.ground;
      cart = leg_free next_way;
      learned = a.fit.learned;
      zero_there = a.fit.zero_there;
      close = a.fit.close;
      links = links_left;
    };
  }

  -- the rest of the route stands
  moved_route : RouteOn head.width head.height head.goal (lists_onward head p) onward step_here.left
  moved_route = rw next_is (route_leave step_here (λ z w n k. rw (get_or-set_other p.link head.cell z 0 0 n) k))

  pub moved_stands : stands (head_onward head p) (lists_onward head p) ≡ true
  moved_stands = route_leads head.width head.height head.goal (lists_onward head p) a.fit.zero_there moved_route

  -- the fewest steps from here are the learned value, and one less from the next cell
  pub fewest_here : Shortest head p head.cell (at p.learned head.cell)
  fewest_here = route_fewest p a.fit route_here

  pub fewest_next : Shortest head p onward (at p.learned onward)
  fewest_next =
      route_fewest (lists_onward head p) moved_held.fit
      (leads_stands (lists_onward head p) moved_held.fit _ moved_held.placed.cart_on moved_stands)

-- THE CALL ------------------------------------------------------------------------------------------------------------------------

-- L + 1 steps were the fewest before, and L are after; the rest of the route stands
pub record Nearer (head : Head) (p : Lent) (r : After Moved) : Type 0 where
  pub left : ℕ
  pub before : Shortest head p head.cell (left + 1)
  pub after : Shortest head p r.answer.head.cell left
  pub onward : stands r.answer.head r.lists ≡ true

-- whatever move answers
pub record MoveKeeps (head : Head) (p : Lent) (r : After Moved) : Type 0 where
  pub same_plot : (r.answer.head.width ≡ head.width) × (r.answer.head.height ≡ head.height) × (r.answer.head.goal ≡ head.goal)
  pub same_ground : r.lists.ground ≡ p.ground
  pub same_learned : r.lists.learned ≡ p.learned
  pub held : Held head p → Held r.answer.head r.lists

module _ (head : Head) (p : Lent) where
  nearer : {r : After Moved} → Moving head p r → r.answer.step ≡ Ok Step.Moved → Nearer head p r
  nearer (move_refused e) q = let z : ◌≡◌ {A = ℕ} 0 1 = cc in absurd (omega arith)
  nearer (move_there a e) q = let z : ◌≡◌ {A = ℕ} 0 1 = cc in absurd (omega arith)
  nearer (move_lost a d t) q = let z : ◌≡◌ {A = ℕ} 0 1 = cc in absurd (omega arith)
  nearer (move_went a d t) q = record {
    left = at p.learned (head_onward head p).cell;
    before = rw (next_lower head p a d t) at (fewest_here head p a d t);
    after = fewest_next head p a d t;
    onward = moved_stands head p a d t;
  }

  -- EACH MOVE brings the cart one step nearer.
  pub move_comes_nearer : (moved head p).answer.step ≡ Ok Step.Moved → Nearer head p (moved head p)
  move_comes_nearer = nearer (move_is head p)

  keeps : {r : After Moved} → Moving head p r → MoveKeeps head p r
  keeps (move_refused e) = record { same_plot = (refl, refl, refl); same_ground = refl; same_learned = refl; held = λ a. a }
  keeps (move_there _ e) = record { same_plot = (refl, refl, refl); same_ground = refl; same_learned = refl; held = λ a. a }
  keeps (move_lost _ d t) = record { same_plot = (refl, refl, refl); same_ground = refl; same_learned = refl; held = λ a. a }
  keeps (move_went a d t) = record { same_plot = (refl, refl, refl); same_ground = refl; same_learned = refl; held = λ _. moved_held head p a d t }

  pub move_keeps : MoveKeeps head p (moved head p)
  move_keeps = keeps (move_is head p)

  must_move : {r : After Moved} → Moving head p r → Held head p → stands head p ≡ true → head.cell ≢ head.goal → r.answer.step ≡ Ok Step.Moved
  must_move (move_refused e) a t d = absurd (not_both e (held_accepts head p a))
  must_move (move_there _ e) a t d = absurd (d e)
  must_move (move_lost _ _ u) a t d = let z : ◌≡◌ {A = Bool} true false = cc in let k : ◌≡◌ {A = ℕ} 0 1 = cc in absurd (omega arith)
  must_move (move_went _ _ _) a t d = refl

  -- Where a route stands short of the goal, the cart moves.
  pub standing_route_moves : Accepts head p → stands head p ≡ true → head.cell ≢ head.goal → (moved head p).answer.step ≡ Ok Step.Moved
  standing_route_moves e t d = must_move (move_is head p) (accepts_held head p e) t d
