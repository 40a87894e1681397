-- THE FORM OF A RECORD, FIELD BY FIELD: the tests of specs/Form say what document 01's form says.
-- Assumes nothing.
use mathlib.Core.Path.{◌≡◌, refl, sym, ap, ◌∙◌}
use mathlib.Core.Bool.{true}
use mathlib.Core.List.{List, [], ◌∷◌, ◌++◌, append-nil}
use Prim.Native.Nat.{ℕ, ◌+◌, ◌*◌, ◌/◌, ◌≤◌, ◌<◌}
use native.Mathlib.Omega.{arith}
use borrow.Author.Tests.{leb-true, le-leb, eqb-true, eq-eqb}
use lib.Dec.{leb, eqb}
use lib.ListN.{length, get_or, take, drop, replicate, length-take, length-drop, take-append-drop, drop_of_length-le}
use lib.Seq.{length-take-le, get_or-drop, get_or-append-add}
use Rattle.model.specs.Lists.{gathered}
use Rattle.model.specs.Lent.{Lent}
use Rattle.model.specs.Head.{cells_of}
use Rattle.model.specs.Record.{big, field, ground_size, low_bits, ground_byte, learned_bytes, record_of, width_at, height_at, goal_at, cell_at, ground_at}
use Rattle.model.specs.Record.{learned_at, link_at, record_length, byte_of, big_of, bit_of, width_of, height_of, head_of, ground_in, learned_in, link_in}
use Rattle.model.specs.Record.{read_into, sides_formed, room_for, formed}
use Rattle.model.proofs.Lists.Bools.{and_both}
use Rattle.model.proofs.Lists.Filled.{filled_at}
use Rattle.model.specs.Fit.{Room}
use Rattle.model.proofs.Lists.Gathered.{length_gathered, get_d_gathered}
use Rattle.model.proofs.Record.RecordFields.{read_room, record_long}
use Rattle.model.proofs.Record.RecordLaws.{same_true, true_same, room_for_law}
use Rattle.model.proofs.Lists.Scans.{same_test}
use Rattle.record.specs.Form.{begins, spare_clear, sides_test, rest_test, fields_formed}
use Rattle.record.proofs.form.FieldParts.{both, laid, found}
use Rattle.record.proofs.form.ByteOfBits.{spare_back}
use Rattle.record.proofs.form.FieldBodies.{one_of, two_of, ground_body, learned_body, link_body}

-- The tests, with no Bool ---------------------------------------------------------------------------------------------------------

record SidesRead (bytes : List ℕ) : Type 0 where
  long : goal_at ≤ length bytes
  width : begins 1 1 (drop width_at bytes) ≡ true
  height : begins 2 1 (drop height_at bytes) ≡ true

record Rest (n : ℕ) (bytes : List ℕ) : Type 0 where
  long : length bytes ≡ record_length n
  goal : begins 3 2 (drop goal_at bytes) ≡ true
  cell : begins 4 2 (drop cell_at bytes) ≡ true
  ground : begins 5 (ground_size n) (drop ground_at bytes) ≡ true
  spare : spare_clear n (drop ground_at bytes) ≡ true
  learned : begins 6 (2 * n) (drop (learned_at n) bytes) ≡ true
  link : begins 7 n (drop (link_at n) bytes) ≡ true

sides_are : (bytes : List ℕ) → sides_test bytes ≡ true → SidesRead bytes
unfolding sides_test
sides_are bytes e =
    let t = both (leb goal_at (length bytes)) _ e in
    let u = both (begins 1 1 (drop width_at bytes)) (begins 2 1 (drop height_at bytes)) t.1 in
    record { long = leb-true goal_at (length bytes) t.0; width = u.0; height = u.1 }

are_sides : (bytes : List ℕ) → SidesRead bytes → sides_test bytes ≡ true
unfolding sides_test
are_sides bytes t = and_both _ _ (le-leb goal_at (length bytes) t.long) (and_both _ _ t.width t.height)

rest_is : (n : ℕ) (bytes : List ℕ) → rest_test n bytes ≡ true → Rest n bytes
unfolding rest_test
rest_is n bytes e =
    let a = both (eqb (length bytes) (record_length n)) _ e in
    let b = both (begins 3 2 (drop goal_at bytes)) _ a.1 in
    let c = both (begins 4 2 (drop cell_at bytes)) _ b.1 in
    let d = both (begins 5 (ground_size n) (drop ground_at bytes)) _ c.1 in
    let s = both (spare_clear n (drop ground_at bytes)) _ d.1 in
    let f = both (begins 6 (2 * n) (drop (learned_at n) bytes)) (begins 7 n (drop (link_at n) bytes)) s.1 in
    record {
      long = eqb-true (length bytes) (record_length n) a.0;
      goal = b.0;
      cell = c.0;
      ground = d.0;
      spare = s.0;
      learned = f.0;
      link = f.1;
    }

is_rest : (n : ℕ) (bytes : List ℕ) → Rest n bytes → rest_test n bytes ≡ true
unfolding rest_test
is_rest n bytes t =
    and_both _ _ (eq-eqb (length bytes) (record_length n) t.long)
    (and_both _ _ t.goal (and_both _ _ t.cell (and_both _ _ t.ground (and_both _ _ t.spare (and_both _ _ t.learned t.link)))))

-- The bodies of the last three fields ---------------------------------------------------------------------------------------------

abbrev grounds : (n : ℕ) (p : Lent) → List ℕ
grounds n p = gathered (ground_size n) (ground_byte n p.ground)

abbrev learneds : (n : ℕ) (p : Lent) → List ℕ
learneds n p = gathered n (learned_bytes p.learned)

-- the fields from the goal's on
abbrev rest_of : (n goal cell : ℕ) (p : Lent) → List ℕ
rest_of n goal cell p =
    field 3 (big goal) ++ (field 4 (big cell) ++ (field 5 (grounds n p) ++ (field 6 (learneds n p) ++ field 7 (take n p.link))))

grounds_long : (n : ℕ) (p : Lent) → length (grounds n p) ≡ ground_size n
unfolding ground_byte
grounds_long n p = length_gathered 1 (ground_byte n p.ground) (λ i. refl) (ground_size n) ∙ omega arith

learneds_long : (n : ℕ) (p : Lent) → length (learneds n p) ≡ 2 * n
unfolding learned_bytes
learneds_long n p = length_gathered 2 (learned_bytes p.learned) (λ i. refl) n ∙ omega arith

-- a byte of the ground, as it is written
ground_entry_law : (n : ℕ) (p : Lent) (rest part : List ℕ) → part ≡ field 5 (grounds n p) ++ rest → (j : ℕ) → j < ground_size n
    → byte_of part j ≡ low_bits n p.ground j 8
unfolding ground_byte
ground_entry_law n p rest part e j l =
    let q : j ≡ j * 1 + 0 = omega arith in
    ap (λ (b : List ℕ). byte_of b j) e
    ∙ get_or-append-add (5 ∷ length (grounds n p) / 256 ∷ _ ∷ []) (grounds n p ++ rest) j 0
    ∙ ap (λ (k : ℕ). get_or (grounds n p ++ rest) k 0) q
    ∙ get_d_gathered 1 (ground_byte n p.ground) (λ i. refl) (ground_size n) 0 (omega arith) rest j l

-- The first two fields --------------------------------------------------------------------------------------------------------------

part_long : (bytes : List ℕ) (at k : ℕ) → at + k ≤ length bytes → k ≤ length (drop at bytes)
part_long bytes at k l = omega (arith, length-drop at bytes)

module _ (bytes : List ℕ) where
  sides_laid : SidesRead bytes → bytes ≡ field 1 (width_of bytes ∷ []) ++ (field 2 (height_of bytes ∷ []) ++ drop goal_at bytes)
  sides_laid t =
      let l = t.long in
      laid 1 1 width_at bytes (width_of bytes ∷ []) _ refl t.width (one_of (drop width_at bytes) 0 (part_long bytes width_at 4 (omega arith)))
      (laid 2 1 height_at bytes (height_of bytes ∷ []) (drop goal_at bytes) refl t.height
      (one_of (drop height_at bytes) 0 (part_long bytes height_at 4 (omega arith))) refl)

  sides_found : (rest : List ℕ) → goal_at ≤ length bytes → bytes ≡ field 1 (width_of bytes ∷ []) ++ (field 2 (height_of bytes ∷ []) ++ rest)
      → SidesRead bytes × (drop goal_at bytes ≡ rest)
  sides_found rest l e =
      let a = found 1 1 width_at bytes (width_of bytes ∷ []) (field 2 (height_of bytes ∷ []) ++ rest) refl e in
      let b = found 2 1 height_at bytes (height_of bytes ∷ []) rest refl a.1 in
      (record { long = l; width = a.0; height = b.0 }, b.1)

  -- THE FIRST TWO FIELDS are in form exactly where the test passes.
  pub sides_formed_is : sides_test bytes ≡ sides_formed bytes
  unfolding sides_formed
  sides_formed_is =
      same_test _ _ (λ e. true_same (take goal_at bytes) _ (ap (take goal_at) (sides_laid (sides_are bytes e)))) (λ e.
      let t = same_true (take goal_at bytes) _ e in
      let l : goal_at ≤ length bytes = omega (arith, length-take goal_at bytes, ap length t) in
      are_sides bytes (sides_found (drop goal_at bytes) l (sym (take-append-drop goal_at bytes) ∙ ap (λ (b : List ℕ). b ++ drop goal_at bytes) t)).0)

-- The state that bytes hold ---------------------------------------------------------------------------------------------------------

module _ (n : ℕ) (bytes : List ℕ) where
  abbrev state : Lent
  state = read_into n bytes (room_for n)

  room : Room n (room_for n)
  room = room_for_law n n (omega arith)

  ground_at_law : (c : ℕ) → c < n → get_or state.ground c 0 ≡ bit_of (drop ground_at bytes) c
  unfolding read_into ground_in
  ground_at_law = filled_at n (ground_in bytes) (replicate n 0) room.grounds

  learned_at_law : (c : ℕ) → c < n → get_or state.learned c 0 ≡ big_of (drop (learned_at n) bytes) (2 * c)
  unfolding read_into learned_in
  learned_at_law = filled_at n (learned_in n bytes) (replicate n 0) room.learneds

  link_at_law : (c : ℕ) → c < n → get_or state.link c 0 ≡ byte_of (drop (link_at n) bytes) c
  unfolding read_into link_in
  link_at_law = filled_at n (link_in n bytes) (replicate n 0) room.links

  links_long : n ≤ length state.link
  links_long = (read_room n bytes (room_for n) room).links

  -- The rest ----------------------------------------------------------------------------------------------------------------------

  rest_laid : ((i : ℕ) → get_or bytes i 0 < 256) → Rest n bytes
      → drop goal_at bytes ≡ rest_of n (big_of (drop goal_at bytes) 0) (big_of (drop cell_at bytes) 0) state
  rest_laid small t =
      let l = t.long in
      laid 3 2 goal_at bytes (big _) _ refl t.goal (two_of (drop goal_at bytes) (small_in goal_at) 0 (part_long bytes goal_at 5 (omega arith)))
      (laid 4 2 cell_at bytes (big _) _ refl t.cell (two_of (drop cell_at bytes) (small_in cell_at) 0 (part_long bytes cell_at 5 (omega arith)))
      (laid 5 (ground_size n) ground_at bytes (grounds n state) _ (grounds_long n state) t.ground
      (ground_body (drop ground_at bytes) (small_in ground_at) n state.ground (part_long bytes ground_at (3 + ground_size n) (omega arith)) ground_at_law
      t.spare)
      (laid 6 (2 * n) (learned_at n) bytes (learneds n state) _ (learneds_long n state) t.learned
      (learned_body (drop (learned_at n) bytes) (small_in (learned_at n)) n state.learned (part_long bytes (learned_at n) (3 + 2 * n) (omega arith))
      learned_at_law)
      (laid 7 n (link_at n) bytes (take n state.link) [] (length-take-le n state.link links_long) t.link
      (link_body (drop (link_at n) bytes) n state.link links_long (part_long bytes (link_at n) (3 + n) (omega arith)) link_at_law)
      (drop_of_length-le bytes {i = record_length n} (omega arith))
      ∙ append-nil (field 7 (take n state.link))))))
    where
      small_in : (at i : ℕ) → get_or (drop at bytes) i 0 < 256
      small_in at i = rw (get_or-drop at bytes i 0) (small (at + i))

  rest_found : (goal cell : ℕ) → length bytes ≡ record_length n → drop goal_at bytes ≡ rest_of n goal cell state → Rest n bytes
  rest_found goal cell l e =
      let a = found 3 2 goal_at bytes (big goal) _ refl e in
      let b = found 4 2 cell_at bytes (big cell) _ refl a.1 in
      let c = found 5 (ground_size n) ground_at bytes (grounds n state) _ (grounds_long n state) b.1 in
      let d = found 6 (2 * n) (learned_at n) bytes (learneds n state) _ (learneds_long n state) c.1 in
      let f =
      found 7 n (link_at n) bytes (take n state.link) [] (length-take-le n state.link links_long)
      (d.1 ∙ sym (append-nil (field 7 (take n state.link)))) in
      record {
        long = l;
        goal = a.0;
        cell = b.0;
        ground = c.0;
        spare = spare_back n state.ground (drop ground_at bytes) ground_at_law (ground_entry_law n state _ (drop ground_at bytes) b.1 (n / 8));
        learned = d.0;
        link = f.0;
      }

-- A RECORD is in form exactly where each field is.
pub formed_is : (bytes : List ℕ) → ((i : ℕ) → get_or bytes i 0 < 256) → fields_formed bytes ≡ formed bytes
unfolding fields_formed formed record_of head_of
formed_is bytes small =
    let n = cells_of (head_of bytes) in
    let p = state n bytes in
    same_test _ _ (λ e.
    let t = both (sides_test bytes) (rest_test n bytes) e in
    true_same bytes _ (sides_laid bytes (sides_are bytes t.0)
    ∙ ap (λ (l : List ℕ). field 1 (width_of bytes ∷ []) ++ (field 2 (height_of bytes ∷ []) ++ l)) (rest_laid n bytes small (rest_is n bytes t.1))))
    (λ e.
    let q = same_true bytes _ e in
    let l : length bytes ≡ record_length n = ap length q ∙ record_long (head_of bytes) p (read_room n bytes (room_for n) (room n bytes)) in
    let t = sides_found bytes (rest_of n _ _ p) (omega arith) q in
    and_both _ _ (are_sides bytes t.0) (is_rest n bytes (rest_found n bytes _ _ l t.1)))
