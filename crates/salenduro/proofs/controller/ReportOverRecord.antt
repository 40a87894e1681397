-- Report over a record: what load read is accepted, report's own tests decide, and what its core leaves is written.
-- Assumes nothing.
use Rattle.std.specs.Prelude.{Ok, Err}
use mathlib.Core.Path.{◌≡◌, sym, ap, ◌∙◌}
use mathlib.Core.List.{List}
use Prim.Native.Nat.{ℕ}
use Rattle.model.specs.Lent.{Lent, fronted, After, after}
use Rattle.model.specs.Numbers.{refusal, changed_answer}
use Rattle.model.specs.Record.{record_of, head_of}
use Rattle.model.specs.Store.{save_check}
use Rattle.model.specs.Report.{report_check, reported}
use Rattle.model.specs.Controller.{after_c, state_in, reported_c}
use Rattle.model.specs.declared.Head.{Head}
use Rattle.model.specs.declared.Reason.{Reason}
use Rattle.model.specs.Verdict.{Verdict}
use Rattle.model.specs.declared.Changed.{Changed}
use Rattle.model.specs.Fit.{Held}
use Rattle.model.proofs.Calls.ReportLaws.{report_rest_law}
use Rattle.model.proofs.Calls.ReportsCommute.{report_keeps}
use Rattle.checks.specs.Rest.{report_rest}
use Rattle.salenduro.proofs.controller.RecordRead.{Read}
use Rattle.salenduro.proofs.controller.RecordRewritten.{record_undone, record_done, may_write, all_written}

-- of accepted data report asks no more than this
rest_is : (head : Head) (p : Lent) (c : ℕ) → Held head p → report_check head p c ≡ report_rest head c
unfolding report_rest
rest_is = report_rest_law

module _ (bytes : List ℕ) (c : ℕ) where
  module _ {head : Head} {p : Lent} (r : Read bytes head p) {v : Verdict} (e : v ≡ report_rest head c) where
    pub report_undone : {n : ℕ} {why : Reason} → n ≡ refusal why → v ≡ Err why → after_c n bytes ≡ reported_c bytes c
    unfolding reported_c reported
    report_undone {why = why} k q =
        let t : report_check (head_of bytes) (state_in bytes) c ≡ Err why = rw (← r.states, ← r.heads) (rest_is head p c r.held ∙ sym e ∙ q) in
        let u : (reported (head_of bytes) (state_in bytes) c).answer.verdict ≡ Err why = rw (reported, t) in
        record_undone bytes _ _ _ _ k r.accepted u (ap changed_answer u)

    pub report_may : v ≡ Ok tt → report_check head p c ≡ Ok tt
    report_may q = rest_is head p c r.held ∙ sym e ∙ q

  -- what the core leaves, in the record
  module _ {head : Head} {p q : Lent} {done : Changed} (r : Read bytes head p) (d : after done q ≡ reported head p c) where
    report_held : Held head q
    report_held = rw (ap (λ (a : After Changed). a.lists) d) ((report_keeps head p c).held r.held)

    pub report_writes : save_check head q bytes ≡ Ok tt
    report_writes = may_write head q bytes report_held r.long

    pub report_done : {bytes' : List ℕ} → report_check head p c ≡ Ok tt → bytes' ≡ fronted (record_of head q) bytes
        → after_c 0 bytes' ≡ reported_c bytes c
    unfolding reported_c reported
    report_done ok w =
        let same : done.head ≡ head = ap (λ (a : After Changed). a.answer.head) d ∙ (report_keeps head p c).same_head in
        let taken : done.verdict ≡ Ok tt = ap (λ (a : After Changed). a.answer.verdict) d ∙ rw (reported, ok) in
        rw (all_written head q bytes report_held r.long w, ← r.states, ← r.heads, ← d)
        (ap (λ (v : Verdict). after_c (changed_answer v) (record_of head q)) (sym taken)
        ∙ ap (λ (h : Head). after_c (changed_answer done.verdict) (record_of h q)) (sym same)
        ∙ record_done bytes _ _ _ _ r.accepted taken)
