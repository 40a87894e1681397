-- "On one cart, reports made one right after another leave the same bytes in either order": of a record's own bytes.
-- Assumes nothing.
use Rattle.std.specs.Prelude.{Ok, Err}
use mathlib.Core.Path.{◌≡◌, refl, sym, ap, ap₂, ◌∙◌}
use mathlib.Core.List.{List, [], ◌∷◌}
use Prim.Native.Nat.{ℕ, zero, suc, ◌<◌}
use native.Mathlib.Omega.{arith}
use lib.ListN.{length, get_or, drop}
use Rattle.model.specs.Plot.{max_cells}
use Rattle.model.specs.Lent.{Lent, After}
use Rattle.model.specs.Head.{cells_of}
use Rattle.model.specs.Record.{record_of, head_of}
use Rattle.model.specs.Store.{load_check, loaded}
use Rattle.model.specs.Report.{reported}
use Rattle.model.specs.Controller.{own_room, AfterC, state_in, reported_c}
use Rattle.model.specs.declared.Head.{Head}
use Rattle.model.specs.Verdict.{Verdict}
use Rattle.model.specs.declared.Changed.{Changed}
use Rattle.model.specs.Fit.{Held}
use Rattle.model.proofs.Calls.Acceptance.{not_both}
use Rattle.model.proofs.Record.RecordFields.{head_read}
use Rattle.model.proofs.Calls.ReportLaws.{Reporting, report_refused, report_taken, report_is}
use Rattle.model.proofs.Calls.ReportsCommute.{report_keeps, reports_commute}
use Rattle.model.proofs.Record.RecordLaws.{room_for_law, load_held, saved_again, loaded_same}
use Rattle.model.proofs.Record.SaveAndLoad.{Loading, load_refused, load_read, load_is}
use Rattle.model.proofs.Calls.BeyondN.{Beyond, LentBeyond, report_beyond, load_beyond}
use Rattle.model.proofs.Record.ControllerLaws.{report_on_record}
use Rattle.promises.proofs.OverRecords.{report_rewrites}

-- lists that agree below n and from n on are equal
joined : (n : ℕ) (a b : List ℕ) → length a ≡ length b → drop n a ≡ drop n b → ((i : ℕ) → i < n → get_or a i 0 ≡ get_or b i 0) → a ≡ b
joined zero a b l d f = d
joined (suc n) [] [] l d f = refl
joined (suc n) [] (y ∷ b) l d f = absurd (omega arith)
joined (suc n) (x ∷ a) [] l d f = absurd (omega arith)
joined (suc n) (x ∷ a) (y ∷ b) l d f =
    ap₂ ◌∷◌ (f 0 (omega arith)) (joined n a b (omega (arith, l)) d (λ i k. f (suc i) (omega arith)))

-- what load reads into room of its own
own : (bytes : List ℕ) → load_check bytes own_room ≡ Ok tt → (loaded bytes own_room).lists ≡ state_in bytes
own bytes ok = go (load_is bytes own_room)
  where
    go : {r : After Changed} → Loading bytes own_room r → r.lists ≡ state_in bytes
    go (load_refused e) = absurd (not_both e ok)
    go (load_read e) = refl

module _ (head : Head) (p q : Lent) (a : Held head q) (beyond : LentBeyond (cells_of head) p q) (fresh : LentBeyond (cells_of head) own_room p) where
  again : LentBeyond (cells_of head) own_room (loaded (record_of head q) own_room).lists
  again = rw (head_read head q) at (load_beyond (record_of head q) own_room)

  back : (loaded (record_of head q) own_room).lists ≡ q
  back =
      let n = cells_of head in
      let room = room_for_law n max_cells a.placed.few in
      let s = loaded_same head q a own_room room in
      let one : (l m k o : List ℕ) → Beyond n o m → Beyond n l k → Beyond n o l → ((i : ℕ) → i < n → get_or k i 0 ≡ get_or m i 0) → m ≡ k =
      λ l m k o x y z f. joined n m k (x.long ∙ sym z.long ∙ sym y.long) (x.stays ∙ sym z.stays ∙ sym y.stays)
      (λ i j. sym (f i j)) in
      λ i. record {
        ground =
            one p.ground (loaded (record_of head q) own_room).lists.ground q.ground own_room.ground again.ground beyond.ground
            fresh.ground s.ground i;
        learned =
            one p.learned (loaded (record_of head q) own_room).lists.learned q.learned own_room.learned again.learned beyond.learned
            fresh.learned s.learned i;
        link =
            one p.link (loaded (record_of head q) own_room).lists.link q.link own_room.link again.link beyond.link fresh.link
            s.link i;
      }

-- a report over a record leaves the record of what the report leaves, also where it is refused
report_leaves : (bytes : List ℕ) → load_check bytes own_room ≡ Ok tt → (c : ℕ)
    → (reported_c bytes c).bytes ≡ record_of (head_of bytes) (reported (head_of bytes) (state_in bytes) c).lists
report_leaves bytes ok c = go (report_is (head_of bytes) (state_in bytes) c) refl
  where
    go : {r : After Changed} → Reporting (head_of bytes) (state_in bytes) c r → reported (head_of bytes) (state_in bytes) c ≡ r
        → (reported_c bytes c).bytes ≡ record_of (head_of bytes) r.lists
    go (report_refused {why = why} e) q =
        ((report_on_record bytes c).undone why ok (ap (λ (r : After Changed). r.answer.verdict) q)).1 ∙ sym (saved_again bytes own_room ok)
    go (report_taken a i n) q =
        ap (λ (r : AfterC). r.bytes) (report_rewrites bytes ok c (ap (λ (r : After Changed). r.answer.verdict) q))
        ∙ ap₂ record_of (ap (λ (r : After Changed). r.answer.head) q) (ap (λ (r : After Changed). r.lists) q)

-- and a second report goes on from there
module _ (bytes : List ℕ) (ok : load_check bytes own_room ≡ Ok tt) where
  then_report : (c d : ℕ) → (reported_c (reported_c bytes c).bytes d).bytes
      ≡ record_of (head_of bytes) (reported (head_of bytes) (reported (head_of bytes) (state_in bytes) c).lists d).lists
  then_report c d =
      let head = head_of bytes in
      let q = (reported head (state_in bytes) c).lists in
      let a : Held head q = (report_keeps head (state_in bytes) c).held (load_held bytes own_room ok) in
      let fresh : LentBeyond (cells_of head) own_room (state_in bytes) = rw (own bytes ok) at (load_beyond bytes own_room) in
      let next = record_of head q in
      let ok' : load_check next own_room ≡ Ok tt = rw (report_leaves bytes ok c) at ((report_on_record bytes c).stays_record ok) in
      let state : state_in next ≡ q = sym (own next ok') ∙ back head (state_in bytes) q a (report_beyond head (state_in bytes) c) fresh in
      ap (λ (b : List ℕ). (reported_c b d).bytes) (report_leaves bytes ok c)
      ∙ report_leaves next ok' d
      ∙ ap₂ (λ (h : Head) (t : Lent). record_of h (reported h t d).lists) (head_read head q) state

-- REPORTS OVER A RECORD leave the same bytes in either order, accepted or refused.
pub record_reports_in_either_order : (bytes : List ℕ) (c d : ℕ) → (reported_c (reported_c bytes c).bytes d).bytes
    ≡ (reported_c (reported_c bytes d).bytes c).bytes
record_reports_in_either_order bytes c d = go _ refl
  where
    go : (v : Verdict) → load_check bytes own_room ≡ v → (reported_c (reported_c bytes c).bytes d).bytes ≡ (reported_c (reported_c bytes d).bytes c).bytes
    go (Ok _) ok =
        then_report bytes ok c d ∙ ap (record_of (head_of bytes)) (reports_commute (head_of bytes) (state_in bytes) c d) ∙ sym (then_report bytes ok d c)
    go (Err why) f =
        let same : (e : ℕ) → (reported_c bytes e).bytes ≡ bytes = λ e. ((report_on_record bytes e).unread why f).1 in
        ap (λ (b : List ℕ). (reported_c b d).bytes) (same c) ∙ same d ∙ sym (ap (λ (b : List ℕ). (reported_c b c).bytes) (same d) ∙ same c)
