-- DEMAND 3, sentence by sentence, over carts and any list of calls (specs/Using).
-- Assumes nothing.
use Rattle.std.specs.Prelude.{Ok}
use mathlib.Core.Path.{◌≡◌, refl, sym}
use mathlib.Core.Bool.{true}
use mathlib.Core.List.{List, [], ◌∷◌}
use Prim.Native.Nat.{ℕ, ◌≤◌, ◌<◌}
use native.Mathlib.Nat.{le_trans}
use native.Mathlib.Omega.{arith}
use Rattle.walks.specs.Walk.{Walk, stay, step}
use Rattle.walks.proofs.Walks.{admissible}
use Rattle.model.specs.Plot.{free}
use Rattle.model.specs.Lent.{Lent, Scratch}
use Rattle.model.specs.Head.{cells_of}
use Rattle.model.specs.Layout.{laid_out}
use Rattle.model.specs.Report.{reported}
use Rattle.model.specs.Plan.{plan_check, planned}
use Rattle.model.specs.Ways.{Adj, Shortest}
use Rattle.model.specs.declared.Head.{Head}
use Rattle.model.specs.declared.Outcome.{Outcome}
use Rattle.model.specs.Fit.{Held}
use Rattle.model.proofs.Calls.Acceptance.{not_both, accepts_held, held_accepts}
use Rattle.model.proofs.Grid.Geometry.{allowed_here, allowed_on, allowed_free, allow}
use Rattle.model.proofs.Calls.FirstEntries.{allowed_same}
use Rattle.model.proofs.Calls.Soundness.{fit_consistent}
use Rattle.model.proofs.Calls.LayoutLaws.{fresh_is_accepted}
use Rattle.model.proofs.Calls.PlanAnswers.{Says, plan_is_true, true_is_planned}
use Rattle.model.proofs.Calls.PlanKeeps.{plan_keeps}
use Rattle.model.proofs.Calls.ReportsCommute.{report_keeps, reports_commute}
use Rattle.model.proofs.Calls.MoveLaws.{move_keeps}
use Rattle.promises.specs.Using.{Cart, Fits, Call, report, plan, move, next, after_all, laid, learnt, SameGround}

-- Two carts ---------------------------------------------------------------------------------------------------------------------------

-- ways over the same ground are the same
adj_same : (head : Head) (p q : Lent) → SameGround head p q → {x y : ℕ} → Adj head.width head.height p.ground x y
    → Adj head.width head.height q.ground x y
adj_same head p q same a =
    let l = a.leg in
    record {
      dir = a.dir;
      leg = record { inside = l.inside; may = allowed_same head.width head.height p q same _ a.dir l.inside l.may; lands = l.lands };
    }

way_same : (head : Head) (p q : Lent) → SameGround head p q → {x y n : ℕ} → Walk (Adj head.width head.height p.ground) x y n
    → Walk (Adj head.width head.height q.ground) x y n
way_same head p q same stay = stay
way_same head p q same (step a w) = step (adj_same head p q same a) (way_same head p q same w)

module _ (head : Head) (p q : Lent) (s t : Scratch) (ok : plan_check head p s ≡ Ok tt) (ok' : plan_check head q t ≡ Ok tt)
    (same : SameGround head p q) where
  back : SameGround head q p
  back c i = sym (same c i)

  -- what is true of one is true of the other
  carried : (o : Outcome) → Says head p s o → Says head q t o
  carried (Outcome.Route L) x =
      (ok', x.1, record { walk = way_same head p q same x.2.walk; least = λ m w. x.2.least m (way_same head q p back w) })
  carried Outcome.NoWay x = (ok', λ n w. x.1 n (way_same head q p back w))
  carried Outcome.Arrived x = (ok', x.1)
  carried (Outcome.Refused why) x = absurd (not_both x ok)

  -- "Take two carts whose data are accepted, with the same plot, known ground, cell and goal, and learned distances and kept
  -- steps that may differ. Both state the same length, or both say no way, or both have arrived": one answer, which is true of
  -- both (Says: a length is the fewest steps, no way is that there is none, arrived is on the goal).
  pub two_carts_one_answer : (o : Outcome) × ((planned head p s).answer.outcome ≡ o) × ((planned head q t).answer.outcome ≡ o) × Says head p s o
      × Says head q t o
  two_carts_one_answer =
      let o = (planned head p s).answer.outcome in
      let says = plan_is_true head p s in
      (o, refl, true_is_planned head q t o (carried o says), says, carried o says)

-- Any calls, in any order ---------------------------------------------------------------------------------------------------------------

held_next : (k : Cart) (call : Call) → Held k.head k.held → Held (next k call).head (next k call).held
held_next k (report c) a = let t = report_keeps k.head k.held c in rw t.same_head (t.held a)
held_next k (plan s) a = let t = plan_keeps k.head k.held s in rw t.same_head (t.held a)
held_next k move a = (move_keeps k.head k.held).held a

held_after : (calls : List Call) (k : Cart) → Held k.head k.held → Held (after_all k calls).head (after_all k calls).held
unfolding after_all
held_after [] k a = a
held_after (call ∷ calls) k a = held_after calls (next k call) (held_next k call a)

-- "Data once accepted are never found unfit after any accepted reports, plans and moves, in any order." (Nor after refused ones.)
pub never_found_unfit : (k : Cart) (calls : List Call) → Fits k → Fits (after_all k calls)
never_found_unfit k calls e = held_accepts _ _ (held_after calls k (accepts_held k.head k.held e))

-- "On one cart, reports made one right after another leave the same bytes in either order."
pub reports_in_either_order : (head : Head) (p : Lent) (c d : ℕ) → (reported head (reported head p c).lists d).lists
    ≡ (reported head (reported head p d).lists c).lists
reports_in_either_order = reports_commute

-- Learned distances ---------------------------------------------------------------------------------------------------------------------

rises : (k : Cart) (call : Call) (x : ℕ) → learnt k x ≤ learnt (next k call) x
rises k (report c) x = rw (report_keeps k.head k.held c).same_learned (omega arith)
rises k (plan s) x = (plan_keeps k.head k.held s).rises x
rises k move x = rw (move_keeps k.head k.held).same_learned (omega arith)

-- from any cart on
pub never_falls : (calls : List Call) (k : Cart) (x : ℕ) → learnt k x ≤ learnt (after_all k calls) x
unfolding after_all
never_falls [] k x = omega arith
never_falls (call ∷ calls) k x = le_trans (rises k call x) (never_falls calls (next k call) x)

-- of accepted data
pub never_exceeds : (k : Cart) → Fits k → (x n : ℕ) → Shortest k.head k.held x n → learnt k x ≤ n
never_exceeds k e x n f = let a = accepts_held k.head k.held e in admissible (fit_consistent a.fit) a.fit.zero_there f.walk

-- nor the true distance over any ground whose cells are blocked wherever they are known to be
pub never_exceeds_true : (k : Cart) → Fits k → (truth : List ℕ)
    → ((c : ℕ) → c < cells_of k.head → free truth c ≡ true → free k.held.ground c ≡ true)
    → (x n : ℕ) → Walk (Adj k.head.width k.head.height truth) x k.head.goal n → learnt k x ≤ n
never_exceeds_true k e truth known x n w =
    let a = accepts_held k.head k.held e in admissible (fit_consistent a.fit) a.fit.zero_there (go w)
  where
    leg : {y z : ℕ} → Adj k.head.width k.head.height truth y z → Adj k.head.width k.head.height k.held.ground y z
    leg {y} b =
        let l = b.leg in
        let on = allowed_on k.head.width k.head.height truth y b.dir l.may in
        let here = known y l.inside (allowed_here k.head.width k.head.height truth y b.dir l.may) in
        let there = known _ on (allowed_free k.head.width k.head.height truth y b.dir l.may) in
        record {
          dir = b.dir;
          leg = record {
            inside = l.inside;
            may = allow k.head.width k.head.height k.held.ground y b.dir here on there;
            lands = l.lands;
          };
        }

    go : {y z m : ℕ} → Walk (Adj k.head.width k.head.height truth) y z m
        → Walk (Adj k.head.width k.head.height k.held.ground) y z m
    go stay = stay
    go (step b w) = step (leg b) (go w)

-- "Over such calls from a fresh layout no learned distance falls, and none exceeds the true distance of a free cell that has a way."
module _ (w h start goal : ℕ) (p : Lent) (ok : (laid_out w h start goal p).answer.verdict ≡ Ok tt) (calls : List Call) where
  fresh_fits : Fits (laid w h start goal p)
  fresh_fits = fresh_is_accepted w h start goal p ok

  pub from_fresh_never_falls : (more : List Call) (x : ℕ) → learnt (after_all (laid w h start goal p) calls) x
      ≤ learnt (after_all (after_all (laid w h start goal p) calls) more) x
  from_fresh_never_falls more x = never_falls more (after_all (laid w h start goal p) calls) x

  pub from_fresh_never_exceeds : (x n : ℕ) → let k = after_all (laid w h start goal p) calls in Shortest k.head k.held x n → learnt k x ≤ n
  from_fresh_never_exceeds x n f =
      never_exceeds (after_all (laid w h start goal p) calls) (never_found_unfit (laid w h start goal p) calls fresh_fits) x n f
