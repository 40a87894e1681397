-- A call whose tests refuse answers the reason and leaves everything as it was: the refused case of each definition.
-- Assumes nothing.
use Rattle.std.specs.Prelude.{Ok, Err}
use mathlib.Core.Path.{◌≡◌, sym, ◌∙◌}
use Prim.Native.Nat.{ℕ}
use Rattle.model.specs.Lent.{Lent, Scratch, after}
use Rattle.model.specs.Head.{no_head}
use Rattle.model.specs.Refusals.{acceptance, changed}
use Rattle.model.specs.Layout.{layout_check, laid_out}
use Rattle.model.specs.Report.{report_check, reported}
use Rattle.model.specs.Plan.{after_plan, answered, plan_check, planned}
use Rattle.model.specs.Move.{stepped, moved}
use Rattle.model.specs.declared.Head.{Head}
use Rattle.model.specs.declared.Reason.{Reason}
use Rattle.model.specs.Verdict.{Verdict}
use Rattle.model.specs.declared.Outcome.{Outcome}
use Rattle.replan.specs.Passed.{Passed}

-- v is what the tests of a call said
module _ {v : Verdict} {why : Reason} (r : v ≡ Err why) where
  pub layout_refused : (w h start goal : ℕ) (p : Lent) → v ≡ layout_check w h start goal p
      → after (changed no_head (Err why)) p ≡ laid_out w h start goal p
  unfolding laid_out
  layout_refused w h start goal p e = rw (laid_out, sym e ∙ r)

  pub report_refused : (head : Head) (p : Lent) (c : ℕ) → v ≡ report_check head p c → after (changed head (Err why)) p ≡ reported head p c
  unfolding reported
  report_refused head p c e = rw (reported, sym e ∙ r)

  pub plan_refused : (head : Head) (p : Lent) (s : Scratch) → v ≡ plan_check head p s → after_plan (answered head 0 (Outcome.Refused why)) p s
      ≡ planned head p s
  unfolding planned
  plan_refused head p s e = rw (planned, sym e ∙ r)

  pub move_refused : (head : Head) (p : Lent) → v ≡ acceptance head p → stepped head (Err why) p ≡ moved head p
  unfolding moved
  move_refused head p e = rw (moved, sym e ∙ r)

pub plan_tested : {head : Head} {p : Lent} {s : Scratch} {v : Verdict} → v ≡ plan_check head p s → v ≡ Ok tt → Passed head p s
plan_tested e r = record { accepted = sym e ∙ r }
