-- The record: what save writes, load reads back, and a state has one record.
-- Assumes nothing.
use Rattle.std.specs.Prelude.{Ok}
use mathlib.Core.Path.{◌≡◌, refl, sym, ap, ap₂, ◌∙◌}
use mathlib.Core.Bool.{true, not, false≢true}
use mathlib.Core.List.{List, [], ◌∷◌}
use Prim.Native.Nat.{ℕ, ◌≤◌}
use native.Mathlib.Omega.{arith}
use borrow.Author.Tests.{eqb-true, eq-eqb, not-false}
use lib.Dec.{eqb}
use lib.ListN.{length, length-replicate}
use Rattle.model.specs.Plot.{bad_sides}
use Rattle.model.specs.Lent.{Lent, buffers_of}
use Rattle.model.specs.Head.{cells_of, cells_named}
use Rattle.model.specs.Sound.{sound}
use Rattle.model.specs.Refusals.{any_short, any_outside, changed}
use Rattle.model.specs.Record.{big, ground_size, ground_byte, learned_bytes, record_of, record_length, head_of, read_into, same, sides_formed, room_for}
use Rattle.model.specs.Record.{formed}
use Rattle.model.specs.Store.{load_check, loaded}
use Rattle.model.specs.declared.Head.{Head}
use Rattle.model.proofs.Lists.Bools.{and_left, and_right, and_both}
use Rattle.model.specs.Fit.{Room, Held}
use Rattle.model.proofs.Calls.Soundness.{sound_fit, fit_sound}
use Rattle.model.proofs.Calls.Acceptance.{passed, room_lent, lent_room, both_on, on_both, place}
use Rattle.model.proofs.Calls.FirstEntries.{SameEntries, fit_same}
use Rattle.model.proofs.Lists.Bits.{low_bits_same}
use Rattle.model.proofs.Lists.Fronted.{take_same}
use Rattle.model.proofs.Lists.Gathered.{gathered_same}
use Rattle.model.proofs.Record.RecordFields.{read_room, read_same, record_long, head_read, entries_read}

-- The same bytes ------------------------------------------------------------------------------------------------------------------

pub same_true : (a b : List ℕ) → same a b ≡ true → a ≡ b
unfolding same
same_true [] [] e = refl
same_true [] (y ∷ ys) e = absurd (false≢true e)
same_true (x ∷ xs) [] e = absurd (false≢true e)
same_true (x ∷ xs) (y ∷ ys) e =
    ap₂ ◌∷◌ (eqb-true x y (and_left (eqb x y) _ e)) (same_true xs ys (and_right (eqb x y) (same xs ys) e))

same_self : (a : List ℕ) → same a a ≡ true
unfolding same
same_self [] = refl
same_self (x ∷ xs) = and_both (eqb x x) (same xs xs) (eq-eqb x x refl) (same_self xs)

pub true_same : (a b : List ℕ) → a ≡ b → same a b ≡ true
true_same a b e = rw (← e) (same_self a)

-- The record reads the first N entries alone ----------------------------------------------------------------------------------------

pub record_same : (head : Head) (p q : Lent) → Room (cells_of head) p → Room (cells_of head) q → SameEntries (cells_of head) p q
    → record_of head p ≡ record_of head q
unfolding record_of ground_byte learned_bytes
record_same head p q a b e =
    let n = cells_of head in
    rw (
      gathered_same (ground_size n) (ground_byte n p.ground) (ground_byte n q.ground)
          (λ j _. ap (λ (x : ℕ). x ∷ []) (low_bits_same n p.ground q.ground e.ground j 8)),
      gathered_same n (learned_bytes p.learned) (learned_bytes q.learned) (λ c l. ap big (e.learned c l)),
      take_same n p.link q.link a.links b.links e.link,
    )

-- Form ------------------------------------------------------------------------------------------------------------------------------

pub room_for_law : (n m : ℕ) → n ≤ m → Room n (room_for m)
room_for_law n m l = let e = length-replicate {A = ℕ} m 0 in record { grounds = omega arith; learneds = omega arith; links = omega arith }

sides_formed_law : (head : Head) (p : Lent) → sides_formed (record_of head p) ≡ true
unfolding record_of sides_formed
sides_formed_law head p = same_self _

module _ (head : Head) (p : Lent) (a : Held head p) where
  entries_back : (q : Lent) → Room (cells_of head) q → SameEntries (cells_of head) p (read_into (cells_of head) (record_of head p) q)
  entries_back q r = entries_read head p q r a.fit.ground

  -- the state read out of its record has that record
  record_back : (q : Lent) → Room (cells_of head) q → record_of head (read_into (cells_of head) (record_of head p) q) ≡ record_of head p
  record_back q r = sym (record_same head p _ a.room (read_room (cells_of head) (record_of head p) q r) (entries_back q r))

  pub record_formed : (sides_formed (record_of head p) ≡ true) × (formed (record_of head p) ≡ true)
  unfolding formed
  record_formed = (
    sides_formed_law head p,
    rw (head_read head p) (true_same _ _ (sym (record_back (room_for (cells_of head)) (room_for_law (cells_of head) (cells_of head) (omega arith))))),
  )

-- What load accepts -----------------------------------------------------------------------------------------------------------------

-- load's tests, with no Bool for the data
record LoadPasses (bytes : List ℕ) (q : Lent) : Type 0 where
  sides : sides_formed bytes ≡ true
  form : formed bytes ≡ true
  room : Room (cells_of (head_of bytes)) q
  held : Held (head_of bytes) (read_into (cells_of (head_of bytes)) bytes q)

module _ (bytes : List ℕ) (q : Lent) where
  load_passed : load_check bytes q ≡ Ok tt → LoadPasses bytes q
  unfolding load_check
  load_passed e =
      let head = head_of bytes in
      let n = cells_of head in
      let p = read_into n bytes q in
      let one = passed (not (sides_formed bytes)) _ _ e in
      let two = passed (bad_sides head.width head.height) _ _ one.1 in
      let three = passed (not (formed bytes)) _ _ two.1 in
      let four = passed (any_outside n (cells_named head)) _ _ three.1 in
      let five = passed (any_short n (buffers_of q)) _ _ four.1 in
      let six = passed (not (sound head p)) _ _ five.1 in
      let on = both_on head.width head.height head.goal head.cell four.0 in
      let room = room_lent n q five.0 in
      record {
        sides = not-false _ one.0;
        form = not-false _ three.0;
        room = room;
        held = record {
          placed = place head.width head.height head.goal head.cell two.0 on.0 on.1;
          room = read_room n bytes q room;
          fit = sound_fit head p (not-false (sound head p) six.0);
        };
      }

  passed_load : LoadPasses bytes q → load_check bytes q ≡ Ok tt
  unfolding load_check
  passed_load t =
      let head = head_of bytes in
      let n = cells_of head in
      let a = t.held in
      rw (
        t.sides,
        a.placed.sides,
        t.form,
        on_both head.width head.height head.goal head.cell a.placed.goal_on a.placed.cart_on,
        lent_room n q t.room,
        fit_sound head (read_into n bytes q) a.fit,
      )

  module _ (e : load_check bytes q ≡ Ok tt) where
    -- Loaded data are sound, and have room.
    pub load_held : Held (head_of bytes) (read_into (cells_of (head_of bytes)) bytes q)
    load_held = (load_passed e).held

    -- Bytes that load accepts are those that save writes for what was read.
    pub saved_again : record_of (head_of bytes) (read_into (cells_of (head_of bytes)) bytes q) ≡ bytes
    unfolding formed
    saved_again =
        let n = cells_of (head_of bytes) in
        let t = load_passed e in
        let r = room_for_law n n (omega arith) in
        record_same (head_of bytes) _ _ t.held.room (read_room n bytes (room_for n) r) (read_same n bytes q (room_for n) t.room r)
        ∙ sym (same_true bytes _ t.form)

    pub load_long : length bytes ≡ record_length (cells_of (head_of bytes))
    load_long = ap length (sym saved_again) ∙ record_long (head_of bytes) _ load_held.room

-- "a state has one record": two that load accepts, with the same head and entries, are the same bytes.
pub one_record : (bytes bytes' : List ℕ) (q q' : Lent) → load_check bytes q ≡ Ok tt → load_check bytes' q' ≡ Ok tt → head_of bytes ≡ head_of bytes'
    → SameEntries (cells_of (head_of bytes)) (read_into (cells_of (head_of bytes)) bytes q) (read_into (cells_of (head_of bytes')) bytes' q')
    → bytes ≡ bytes'
one_record bytes bytes' q q' e e' h s =
    sym (saved_again bytes q e)
    ∙ record_same (head_of bytes) _ (read_into (cells_of (head_of bytes')) bytes' q') (load_held bytes q e).room (rw h (load_held bytes' q' e').room) s
    ∙ ap (λ (head : Head). record_of head (read_into (cells_of (head_of bytes')) bytes' q')) h
    ∙ saved_again bytes' q' e'

-- Reading back ----------------------------------------------------------------------------------------------------------------------

module _ (head : Head) (p : Lent) (a : Held head p) (q : Lent) (r : Room (cells_of head) q) where
  back_held : Held head (read_into (cells_of head) (record_of head p) q)
  back_held = record {
    placed = a.placed;
    room = read_room (cells_of head) (record_of head p) q r;
    fit = fit_same p _ a.placed a.fit (entries_back head p a q r);
  }

  pub load_accepted : load_check (record_of head p) q ≡ Ok tt
  load_accepted =
      let f = record_formed head p a in
      passed_load (record_of head p) q (record { sides = f.0; form = f.1; room = rw (head_read head p) r; held = rw (head_read head p) back_held })

  -- "A saved record reads back as the same state": the head ..
  pub loaded_is : loaded (record_of head p) q ≡ record { answer = changed head (Ok tt); lists = read_into (cells_of head) (record_of head p) q }
  unfolding loaded
  loaded_is = rw (load_accepted, loaded, head_read head p)

  -- .. and the entries.
  pub loaded_same : SameEntries (cells_of head) p (loaded (record_of head p) q).lists
  loaded_same = rw loaded_is (entries_back head p a q r)
