-- At each answer of load and of unpack, the tests that led there decide it; and what the tests leave.
-- Assumes nothing.
use Rattle.std.specs.Prelude.{Result, Ok, Err}
use mathlib.Core.Path.{◌≡◌, refl, sym, ap, ◌∙◌}
use mathlib.Core.Bool.{Bool, true, false, not}
use mathlib.Core.List.{List}
use Prim.Native.Nat.{ℕ, ◌≤◌, ◌<◌, min, max}
use native.Mathlib.Omega.{arith}
use borrow.Author.Tests.{not-false, le-leb, lt-leb, lt-ltb}
use lib.Dec.{leb}
use lib.ListN.{length, get_or}
use Rattle.model.specs.Plot.{max_cells, bad_sides}
use Rattle.model.specs.Lent.{Lent, lent_with, After, after}
use Rattle.model.specs.Head.{cells_of, cells_named}
use Rattle.model.specs.Fit.{Room}
use Rattle.model.specs.Sound.{sound}
use Rattle.model.specs.Refusals.{refuse_if, and_then, any_outside}
use Rattle.model.specs.Record.{record_length, head_of, read_into, sides_formed, room_for, formed}
use Rattle.model.specs.Store.{load_check, loaded}
use Rattle.model.specs.declared.Head.{Head}
use Rattle.model.specs.declared.Reason.{Reason}
use Rattle.model.specs.declared.Reason.TheVariants.{Short, Outside, Unsound}
use Rattle.model.specs.Verdict.{Verdict}
use Rattle.model.specs.declared.Changed.{Changed}
use Rattle.model.proofs.Lists.Filled.{length_filled}
use Rattle.model.proofs.Calls.Acceptance.{not_both, passed, lent_room, both_on, place}
use Rattle.model.proofs.Record.RecordFields.{read_room, record_long}
use Rattle.model.proofs.Record.RecordLaws.{same_true, room_for_law, load_held, load_long}
use Rattle.model.proofs.Calls.OneResult.{coincide, answers, grounds, learneds, links}
use Rattle.checks.proofs.SharedTests.{Farthest, farthest_one, farthest_more, shortest_lent}
use Rattle.record.specs.Form.{form_check}
use Rattle.record.specs.Load.{open_check, state_check, headed, answer_of, Opened, Unpacked}
use Rattle.record.proofs.load.LoadTests.{sound_same, cells_check, tests_are, both_are}

-- what goes with a verdict tells it, and tells the head
verdict_of : Result Head Reason → Verdict
verdict_of (Ok _) = Ok tt
verdict_of (Err why) = Err why

head_or : Head → Result Head Reason → Head
head_or none (Ok head) = head
head_or none (Err _) = none

told : (bytes : List ℕ) (v : Verdict) → verdict_of (headed bytes v) ≡ v
unfolding verdict_of
told bytes (Ok _) = refl
told bytes (Err why) = refl

-- o goes with v
module _ (bytes : List ℕ) (v : Verdict) {o : Result Head Reason} (e : o ≡ headed bytes v) where
  is_err : {why : Reason} → o ≡ Err why → v ≡ Err why
  unfolding verdict_of
  is_err r = sym (ap verdict_of e ∙ told bytes v) ∙ ap verdict_of r

  is_ok : {head : Head} → o ≡ Ok head → v ≡ Ok tt
  unfolding verdict_of
  is_ok f = sym (ap verdict_of e ∙ told bytes v) ∙ ap verdict_of f

  is_head : {head : Head} → o ≡ Ok head → head ≡ head_of bytes
  unfolding head_or
  is_head {head} f = ap (head_or head) (sym f ∙ e ∙ ap (headed bytes) (is_ok f))

-- The bytes alone -----------------------------------------------------------------------------------------------------------------

-- v is what the tests of form said
module _ (bytes : List ℕ) (small : (i : ℕ) → get_or bytes i 0 < 256) {v : Verdict} (e : v ≡ form_check bytes) where
  decided : {u : Verdict} → v ≡ u → headed bytes (and_then u (cells_check bytes)) ≡ headed bytes (open_check bytes)
  decided r = ap (λ (x : Verdict). headed bytes (and_then x (cells_check bytes))) (sym r ∙ e) ∙ ap (headed bytes) (tests_are bytes small)

  pub open_unformed : {why : Reason} → v ≡ Err why → Err why ≡ headed bytes (open_check bytes)
  open_unformed r = decided r

  module _ {head : Head} (f : v ≡ Ok tt) (h : head ≡ head_of bytes) where
    outsides : {b : Bool} → any_outside (cells_of head) (cells_named head) ≡ b → any_outside (cells_of (head_of bytes)) (cells_named (head_of bytes)) ≡ b
    outsides o = ap (λ (x : Head). any_outside (cells_of x) (cells_named x)) (sym h) ∙ o

    -- far is the farthest cell that the head names
    farthest : {far : ℕ} {b : Bool} → far ≡ max head.goal head.cell → leb (cells_of head) far ≡ b
        → any_outside (cells_of head) (cells_named head) ≡ b
    farthest m t = let f : Farthest _ (cells_named head) = farthest_more m farthest_one in sym (f.outside (cells_of head)) ∙ t

    pub open_outside : {far : ℕ} → far ≡ max head.goal head.cell → cells_of head ≤ far → Err Outside ≡ headed bytes (open_check bytes)
    open_outside m l =
        ap (λ (b : Bool). headed bytes (refuse_if b Outside (Ok tt))) (sym (outsides (farthest m (le-leb _ _ l)))) ∙ decided f

    pub open_inside : {far : ℕ} → far ≡ max head.goal head.cell → far < cells_of head → Ok head ≡ headed bytes (open_check bytes)
    open_inside m l =
        ap (λ (x : Head). Ok x) h
        ∙ ap (λ (b : Bool). headed bytes (refuse_if b Outside (Ok tt))) (sym (outsides (farthest m (lt-leb _ _ l))))
        ∙ decided f

opened_by : (bytes : List ℕ) → open_check bytes ≡ Ok tt → Opened (head_of bytes) bytes
unfolding open_check formed
opened_by bytes e =
    let head = head_of bytes in
    let n = cells_of head in
    let one = passed (not (sides_formed bytes)) _ _ e in
    let two = passed (bad_sides head.width head.height) _ _ one.1 in
    let three = passed (not (formed bytes)) _ _ two.1 in
    let on = both_on head.width head.height head.goal head.cell (passed (any_outside n (cells_named head)) _ _ three.1).0 in
    record {
      placed = place head.width head.height head.goal head.cell two.0 on.0 on.1;
      long =
          ap length (same_true bytes _ (not-false (formed bytes) three.0))
          ∙ record_long head _ (read_room n bytes (room_for n) (room_for_law n n (omega arith)));
    }

-- room for every plot is room for this one
pub room_here : {head : Head} {bytes : List ℕ} {p : Lent} → Opened head bytes → Room max_cells p → Room (cells_of head) p
room_here o r =
    let few = o.placed.few in
    record { grounds = omega (arith, few, r.grounds); learneds = omega (arith, few, r.learneds); links = omega (arith, few, r.links) }

-- and so is the least of the lists' lengths
pub room_in : {p : Lent} {n room : ℕ} → n ≤ room → room ≡ min (length p.ground) (min (length p.learned) (length p.link)) → Room n p
room_in l e = record { grounds = omega (arith, l, e); learneds = omega (arith, l, e); links = omega (arith, l, e) }

-- Load's answer -------------------------------------------------------------------------------------------------------------------

-- o is what was said of the bytes alone
module _ (bytes : List ℕ) {o : Result Head Reason} (e : o ≡ headed bytes (open_check bytes)) where
  pub answer_unopened : (p : Lent) {why : Reason} → o ≡ Err why → Err why ≡ headed bytes (load_check bytes p)
  answer_unopened p r =
      ap (λ (x : Verdict). headed bytes (and_then x (state_check (head_of bytes) bytes p))) (sym (is_err bytes (open_check bytes) e r))
      ∙ ap (headed bytes) (both_are bytes p)

  module _ {head : Head} (f : o ≡ Ok head) where
    pub opened : Opened head bytes
    opened = rw (is_head bytes (open_check bytes) e f) (opened_by bytes (is_ok bytes (open_check bytes) e f))

    module _ (p : Lent) where
      -- the rest is asked of the lists
      rest : state_check head bytes p ≡ load_check bytes p
      rest =
          ap (λ (x : Head). state_check x bytes p) (is_head bytes (open_check bytes) e f)
          ∙ ap (λ (x : Verdict). and_then x (state_check (head_of bytes) bytes p)) (sym (is_ok bytes (open_check bytes) e f))
          ∙ both_are bytes p

      -- room is the least of the lists' lengths
      pub answer_short : {room : ℕ} → room ≡ min (length p.ground) (min (length p.learned) (length p.link)) → room < cells_of head
          → Err Short ≡ headed bytes (load_check bytes p)
      unfolding state_check
      answer_short m l =
          let short = sym ((shortest_lent p m).short (cells_of head)) ∙ lt-ltb _ _ l in
          rw (← rest, short)

      -- s says whether what is read into lists q is sound: it is the same of what is read into p
      module _ (q : Lent) (r : Room (cells_of head) p) (r' : Room (cells_of head) q) {s : Bool}
          (d : s ≡ sound head (read_into (cells_of head) bytes q)) where
        sounds : s ≡ sound head (read_into (cells_of head) bytes p)
        sounds = d ∙ sound_same head bytes q p opened.placed r' r

        pub answer_unsound : s ≡ false → Err Unsound ≡ headed bytes (load_check bytes p)
        unfolding state_check
        answer_unsound t = rw (← rest, lent_room (cells_of head) p r, sym sounds ∙ t)

        pub answer_sound : s ≡ true → Ok head ≡ headed bytes (load_check bytes p)
        unfolding state_check
        answer_sound t =
            let k : state_check head bytes p ≡ Ok tt = rw (state_check, lent_room (cells_of head) p r, sym sounds ∙ t) in
            ap (λ (x : Head). Ok x) (is_head bytes (open_check bytes) e f) ∙ ap (headed bytes) (sym k ∙ rest)

-- Load, and unpack ------------------------------------------------------------------------------------------------------------------

-- what load's checks leave
pub record ReadPasses (head : Head) (bytes : List ℕ) (p : Lent) : Type 0 where
  pub few : cells_of head ≤ max_cells
  pub long : length bytes ≡ record_length (cells_of head)
  pub room : Room (cells_of head) p

-- a is what load's checks said
module _ (bytes : List ℕ) (p : Lent) {a : Result Head Reason} (e : a ≡ headed bytes (load_check bytes p)) where
  pub load_refused : {why : Reason} → a ≡ Err why → after (answer_of (Err why)) p ≡ loaded bytes p
  unfolding loaded
  load_refused r = let q = is_err bytes (load_check bytes p) e r in rw (loaded, q)

  module _ {head : Head} (f : a ≡ Ok head) where
    pub load_passed : ReadPasses head bytes p
    unfolding read_into
    load_passed =
        let q = is_ok bytes (load_check bytes p) e f in
        let t = load_held bytes p q in
        rw (is_head bytes (load_check bytes p) e f) (record {
          few = t.placed.few;
          long = load_long bytes p q;
          room = record {
            grounds = simp length_filled at t.room.grounds;
            learneds = simp length_filled at t.room.learneds;
            links = simp length_filled at t.room.links;
          };
        })

    pub load_done : {q : Lent} → q ≡ read_into (cells_of head) bytes p → after (answer_of (Ok head)) q ≡ loaded bytes p
    unfolding loaded
    load_done d = let q = is_ok bytes (load_check bytes p) e f in rw (d, is_head bytes (load_check bytes p) e f, loaded, q)

  -- what unpack leaves is load's where it is accepted
  pub unpacked : {head : Head} {q : Lent} → a ≡ Ok head → q ≡ read_into (cells_of head) bytes p → Unpacked bytes p (answer_of (Ok head)) q
  unpacked f d = record { answers = ap (λ (x : After Changed). x.answer) (load_done f d); reads = λ _. ap (λ (x : After Changed). x.lists) (load_done f d) }

  -- .. and else nothing is said of it
  pub unpacked_refused : {why : Reason} {q : Lent} → a ≡ Err why → Unpacked bytes p (answer_of (Err why)) q
  unpacked_refused {why} r = record {
    answers = ap (λ (x : After Changed). x.answer) (load_refused r);
    reads = λ f. absurd (not_both {v = Err why} refl f);
  }

-- what load's promise allows is one: one answer, ground, learned and link
pub load_coincides : (bytes : List ℕ) (p : Lent) {r r' : Changed} {ground learned link ground' learned' link' : List ℕ}
    → after r (lent_with ground learned link) ≡ loaded bytes p
    → after r' (lent_with ground' learned' link') ≡ loaded bytes p
    → (r ≡ r') × (ground ≡ ground') × (learned ≡ learned') × (link ≡ link')
load_coincides bytes p e f = let q = coincide e f in (answers q, grounds q, learneds q, links q)
