-- Every number that a host is given fits 32 bits: accepted lengths, cells and counts are below 70,000.
-- Assumes nothing.
use Rattle.std.specs.Prelude.{Result, Ok, Err}
use mathlib.Core.Path.{◌≡◌, refl, sym, ap}
use mathlib.Core.List.{List}
use Prim.Native.Nat.{ℕ, ◌<◌}
use native.Mathlib.Omega.{arith}
use lib.ListN.{length, get_or}
use Rattle.model.specs.Plot.{max_cells}
use Rattle.model.specs.Numbers.{verdict_number, length_verdict, plan_answer, move_answer, given_number}
use Rattle.model.specs.Lent.{Lent, Scratch, After, after}
use Rattle.model.specs.Plan.{AfterPlan, after_plan, planned}
use Rattle.model.specs.Move.{moved}
use Rattle.model.specs.Listing.{list_check, listed, list_question}
use Rattle.model.specs.Route.{route}
use Rattle.model.specs.Store.{AfterSave, after_save, saved}
use Rattle.model.specs.declared.Head.{Head}
use Rattle.model.specs.declared.Reason.{Reason}
use Rattle.model.specs.Verdict.{Verdict}
use Rattle.model.specs.declared.Outcome.{Outcome}
use Rattle.model.specs.declared.Planned.{Planned}
use Rattle.model.specs.declared.Moved.{Moved}
use Rattle.model.specs.declared.Saved.{Saved}
use Rattle.model.proofs.Calls.Acceptance.{accepts_held}
use Rattle.model.proofs.Calls.PlanCases.{plan_passed}
use Rattle.model.proofs.Calls.PlanAnswers.{Says, plan_is_true}
use Rattle.model.proofs.Calls.PlanKeeps.{plan_keeps, route_stands_after}
use Rattle.model.proofs.Calls.MoveLaws.{Moving, move_refused, move_there, move_lost, move_went, move_is, moved_held}
use Rattle.model.proofs.Record.SaveAndLoad.{Saving, save_refused, save_wrote, save_is}
use Rattle.calls.specs.Counted.{Counted, count_in}
use Rattle.calls.proofs.list.ListCases.{route_long, list_accepts}
use Rattle.model.proofs.Calls.ReasonNumbers.{number_small}

-- a plan's length is the learned value of the cart's cell afterwards, and the data are accepted then
pub route_few : (head : Head) (p : Lent) (s : Scratch) (L : ℕ) → (planned head p s).answer.outcome ≡ Outcome.Route L → L < max_cells
route_few head p s L e =
    let said : Says head p s (Outcome.Route L) = rw e at (plan_is_true head p s) in
    let a = (plan_keeps head p s).held (plan_passed head p s said.0).0 in
    omega (arith, a.fit.learned head.cell a.placed.cart_on, a.placed.few, (route_stands_after head p s L e).1)

pub plan_fits : (head : Head) (p : Lent) (s : Scratch) {r : Planned} {q : Lent} {t : Scratch} → after_plan r q t ≡ planned head p s
    → plan_answer r.outcome < 4294967296
plan_fits head p s d = rw (ap (λ (a : AfterPlan). a.answer.outcome) d) (go _ refl)
  where
    go : (o : Outcome) → (planned head p s).answer.outcome ≡ o → plan_answer o < 4294967296
    go (Outcome.Route L) e = omega (arith, route_few head p s L e)
    go Outcome.NoWay e = omega arith
    go Outcome.Arrived e = omega arith
    go (Outcome.Refused why) e = omega (arith, number_small why)

pub move_fits : (head : Head) (p : Lent) {r : Moved} {q : Lent} → after r q ≡ moved head p → move_answer r.head.cell r.step < 4294967296
move_fits head p d = rw (ap (λ (a : After Moved). a.answer.head.cell) d, ap (λ (a : After Moved). a.answer.step) d) (go (move_is head p))
  where
    go : {r : After Moved} → Moving head p r → move_answer r.answer.head.cell r.answer.step < 4294967296
    go (move_refused {why = why} e) = omega (arith, number_small why)
    go (move_there a e) = omega (arith, a.placed.cart_on, a.placed.few)
    go (move_lost a n t) = omega arith
    go (move_went a n t) = let k = moved_held head p a n t in omega (arith, k.placed.cart_on, k.placed.few)

pub save_fits : (head : Head) (p : Lent) (bytes : List ℕ) {r : Saved} {bytes' : List ℕ} → after_save r bytes' ≡ saved head p bytes
    → given_number r.length < 4294967296
save_fits head p bytes d = rw (ap (λ (a : AfterSave). a.answer.length) d) (go (save_is head p bytes))
  where
    go : {r : AfterSave} → Saving head p bytes r → given_number r.answer.length < 4294967296
    go (save_refused {why = why} e) = omega (arith, number_small why)
    go (save_wrote a w) = omega (arith, a.placed.few)

pub question_fits : (head : Head) (p : Lent) (buffer : List ℕ) {n : ℕ} → n ≡ list_question head p buffer → n < 9
unfolding list_question
question_fits head p buffer e = rw e (go (list_check head p buffer))
  where
    go : (v : Verdict) → verdict_number v < 9
    go (Ok _) = omega arith
    go (Err why) = number_small why

-- a route has one cell more than its steps, which are the learned value of the cart's cell
pub list_few : (head : Head) (p : Lent) (buffer : List ℕ) → list_check head p buffer ≡ Ok tt → get_or p.learned head.cell 0 < max_cells
list_few head p buffer ok =
    let a = accepts_held head p (list_accepts head p buffer ok) in
    omega (arith, a.fit.learned head.cell a.placed.cart_on, a.placed.few)

pub list_fits : {head : Head} {p : Lent} {buffer l : List ℕ} (r : Result ℕ Reason) → length_verdict r ≡ list_check head p buffer
    → Counted head p buffer (count_in r) l → given_number r < 4294967296
unfolding listed
list_fits {head} {p} {buffer} (Ok k) v c =
    let ok = sym v in
    let n : k ≡ length (route head p) = rw (listed, ok) at c.count in omega (arith, n, route_long head p, list_few head p buffer ok)
list_fits (Err why) v c = omega (arith, number_small why)
