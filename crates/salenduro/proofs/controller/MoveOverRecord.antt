-- Move over a record: what load read is accepted, the step decides, and what the core leaves is written.
-- Assumes nothing.
use Rattle.std.specs.Prelude.{Ok, Err, Result}
use mathlib.Core.Path.{◌≡◌, refl, sym, ap, ◌∙◌}
use mathlib.Core.List.{List}
use Prim.Native.Nat.{ℕ, ◌<◌}
use native.Mathlib.Omega.{arith}
use lib.ListN.{length}
use Rattle.model.specs.Lent.{Lent, fronted, After, after}
use Rattle.model.specs.Head.{cells_of}
use Rattle.model.specs.Numbers.{step_verdict, refusal, move_answer}
use Rattle.model.specs.Record.{record_length, record_of}
use Rattle.model.specs.Store.{save_check}
use Rattle.model.specs.Move.{moved}
use Rattle.model.specs.Ways.{Accepts}
use Rattle.model.specs.Controller.{after_c, moved_c}
use Rattle.model.specs.declared.Head.{Head}
use Rattle.model.specs.declared.Reason.{Reason}
use Rattle.model.specs.Verdict.{Verdict}
use Rattle.model.specs.declared.Moved.{Moved}
use Rattle.model.specs.declared.Step.{Step}
use Rattle.model.specs.Fit.{Held}
use Rattle.model.proofs.Calls.Acceptance.{not_both, held_accepts}
use Rattle.model.proofs.Calls.MoveLaws.{move_keeps}
use Rattle.salenduro.proofs.controller.RecordRead.{Read}
use Rattle.salenduro.proofs.controller.RecordRewritten.{record_undone, record_done, may_write, all_written}

was_moved : (cell : ℕ) (s : Result Step Reason) → step_verdict s ≡ Ok tt → move_answer cell s ≡ cell
was_moved cell (Ok Step.Moved) e = refl
was_moved cell (Ok Step.Arrived) e = refl
was_moved cell (Err why) e = absurd (not_both refl e)

not_moved : (cell : ℕ) (s : Result Step Reason) {why : Reason} → step_verdict s ≡ Err why → move_answer cell s ≡ refusal why
not_moved cell (Ok Step.Moved) e = absurd (not_both e refl)
not_moved cell (Ok Step.Arrived) e = absurd (not_both e refl)
not_moved cell (Err other) {why} e = let q : other ≡ why = cc in ap refusal q

module _ (bytes : List ℕ) where
  module _ {head : Head} {p : Lent} (r : Read bytes head p) where
    pub move_may : Accepts head p
    move_may = held_accepts head p r.held

    module _ {done : Moved} {q : Lent} (d : after done q ≡ moved head p) where
      steps : done.step ≡ (moved head p).answer.step
      steps = ap (λ (a : After Moved). a.answer.step) d

      heads : done.head ≡ (moved head p).answer.head
      heads = ap (λ (a : After Moved). a.answer.head) d

      lists : q ≡ (moved head p).lists
      lists = ap (λ (a : After Moved). a.lists) d

      pub move_undone : {n : ℕ} {v : Verdict} {why : Reason} → n ≡ refusal why → v ≡ step_verdict done.step → v ≡ Err why
          → after_c n bytes ≡ moved_c bytes
      unfolding moved_c
      move_undone k e f =
          let t = sym e ∙ f in
          rw (← r.states, ← r.heads, ← d) (record_undone bytes _ _ _ _ k r.accepted t (not_moved done.head.cell done.step t))

      move_held : Held done.head q
      move_held = rw (heads, lists) ((move_keeps head p).held r.held)

      move_long : length bytes ≡ record_length (cells_of done.head)
      move_long = let k = (move_keeps head p).same_plot in rw (heads, k.0, k.1) r.long

      pub move_writes : save_check done.head q bytes ≡ Ok tt
      move_writes = may_write done.head q bytes move_held move_long

      -- every cell that the heads name fits 32 bits
      pub moved_cells : (done.head.cell < 4096) × (done.head.goal < 4096) × (head.cell < 4096)
      moved_cells =
          let now = move_held.placed in
          let then = r.held.placed in
          (omega (arith, now.cart_on, now.few), omega (arith, now.goal_on, now.few), omega (arith, then.cart_on, then.few))

      pub move_done : {bytes' : List ℕ} {answer : ℕ} {v : Verdict} → v ≡ step_verdict done.step → v ≡ Ok tt
          → bytes' ≡ fronted (record_of done.head q) bytes → answer ≡ done.head.cell
          → after_c answer bytes' ≡ moved_c bytes
      unfolding moved_c
      move_done f g w e =
          let t = sym f ∙ g in
          rw (all_written done.head q bytes move_held move_long w, e, ← r.states, ← r.heads, ← d)
          (ap (λ (a : ℕ). after_c a (record_of done.head q)) (sym (was_moved done.head.cell done.step t))
          ∙ record_done bytes _ _ _ _ r.accepted t)
