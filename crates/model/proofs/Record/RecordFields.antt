-- What stands where in a record, and what reading gives back.
-- Assumes nothing.
use mathlib.Core.Path.{◌≡◌, refl, sym, ap, ◌∙◌}
use mathlib.Core.List.{List, [], ◌∷◌, ◌++◌}
use Prim.Native.Nat.{ℕ, ◌+◌, ◌*◌, ◌/◌, ◌≤◌, ◌<◌}
use native.Mathlib.Nat.{div-add-mod'}
use native.Mathlib.Omega.{arith}
use lib.ListN.{length, get_or, take, drop, length-append}
use lib.Seq.{length-take-le, get_or-take, drop_at, drop-drop, get_or-append-add}
use Rattle.model.specs.Lists.{gathered}
use Rattle.model.specs.Lent.{Lent}
use Rattle.model.specs.Head.{cells_of}
use Rattle.model.specs.Record.{field, ground_size, ground_byte, learned_bytes, record_of, past, ground_at, learned_at, link_at, record_length, byte_of}
use Rattle.model.specs.Record.{head_of, ground_in, learned_in, link_in, read_into}
use Rattle.model.specs.declared.Head.{Head}
use Rattle.model.proofs.Lists.Filled.{length_filled, filled_at}
use Rattle.model.specs.Fit.{Room}
use Rattle.model.proofs.Calls.FirstEntries.{SameEntries}
use Rattle.model.proofs.Lists.Bits.{ground_bit}
use Rattle.model.proofs.Lists.Gathered.{length_gathered, get_d_gathered}

-- Reading -----------------------------------------------------------------------------------------------------------------------

-- the first n entries are those in the bytes
record In (n : ℕ) (bytes : List ℕ) (p : Lent) : Type 0 where
  ground : (c : ℕ) → c < n → get_or p.ground c 0 ≡ ground_in bytes c
  learned : (c : ℕ) → c < n → get_or p.learned c 0 ≡ learned_in n bytes c
  link : (c : ℕ) → c < n → get_or p.link c 0 ≡ link_in n bytes c

module _ (n : ℕ) (bytes : List ℕ) where
  read_in : (q : Lent) → Room n q → In n bytes (read_into n bytes q)
  unfolding read_into
  read_in q r = record {
    ground = filled_at n (ground_in bytes) q.ground r.grounds;
    learned = filled_at n (learned_in n bytes) q.learned r.learneds;
    link = filled_at n (link_in n bytes) q.link r.links;
  }

  pub read_room : (q : Lent) → Room n q → Room n (read_into n bytes q)
  unfolding read_into
  read_room q r =
      record { grounds = simp length_filled r.grounds; learneds = simp length_filled r.learneds; links = simp length_filled r.links }

  -- what is read does not depend on what is read into
  pub read_same : (q q' : Lent) → Room n q → Room n q' → SameEntries n (read_into n bytes q) (read_into n bytes q')
  read_same q q' r r' =
      let a = read_in q r in
      let b = read_in q' r' in
      record {
        ground = λ c l. a.ground c l ∙ sym (b.ground c l);
        learned = λ c l. a.learned c l ∙ sym (b.learned c l);
        link = λ c l. a.link c l ∙ sym (b.link c l);
      }

-- Fields ------------------------------------------------------------------------------------------------------------------------

-- past the tag and the length
entry_of : (tag high low : ℕ) (rest : List ℕ) (k : ℕ) → byte_of (tag ∷ high ∷ low ∷ rest) k ≡ get_or rest k 0
entry_of tag high low rest k = get_or-append-add (tag ∷ high ∷ low ∷ []) rest k 0

-- behind a field the next begins
behind : (tag : ℕ) (body rest bytes : List ℕ) (at size : ℕ) → length body ≡ size → drop at bytes ≡ field tag body ++ rest
    → drop (past at size) bytes ≡ rest
behind tag body rest bytes at size e d =
    sym (drop-drop (3 + size) at bytes) ∙ ap (drop (3 + size)) d ∙ drop_at (field tag body) rest (3 + size) (omega (arith, e))

-- entry j of part i, in a field of gathered parts
part_entry : (tag n k : ℕ) (part : ℕ → List ℕ) (rest : List ℕ) → ((i : ℕ) → length (part i) ≡ k) → (i j at : ℕ) → i < n → j < k → at ≡ i * k + j
    → byte_of (field tag (gathered n part) ++ rest) at ≡ get_or (part i) j 0
part_entry tag n k part rest e i j at l m q = rw q (entry_of tag _ _ (gathered n part ++ rest) (i * k + j) ∙ get_d_gathered k part e n j m rest i l)

-- The parts of a record -----------------------------------------------------------------------------------------------------------

module _ (head : Head) (p : Lent) where
  abbrev grounds : List ℕ
  grounds = gathered (ground_size (cells_of head)) (ground_byte (cells_of head) p.ground)

  abbrev learneds : List ℕ
  learneds = gathered (cells_of head) (learned_bytes p.learned)

  abbrev links : List ℕ
  links = take (cells_of head) p.link

  grounds_long : length grounds ≡ ground_size (cells_of head)
  unfolding ground_byte
  grounds_long = length_gathered 1 (ground_byte (cells_of head) p.ground) (λ i. refl) _ ∙ omega arith

  learneds_long : length learneds ≡ 2 * cells_of head
  unfolding learned_bytes
  learneds_long = length_gathered 2 (learned_bytes p.learned) (λ i. refl) _ ∙ omega arith

  pub record_long : Room (cells_of head) p → length (record_of head p) ≡ record_length (cells_of head)
  unfolding record_of
  record_long r =
      simp length-append (omega (arith, grounds_long, learneds_long, length-take-le (cells_of head) p.link r.links))

  ground_part : drop ground_at (record_of head p) ≡ field 5 grounds ++ (field 6 learneds ++ field 7 links)
  unfolding record_of
  ground_part = refl

  learned_part : drop (learned_at (cells_of head)) (record_of head p) ≡ field 6 learneds ++ field 7 links
  learned_part = behind 5 grounds (field 6 learneds ++ field 7 links) (record_of head p) ground_at _ grounds_long ground_part

  link_part : drop (link_at (cells_of head)) (record_of head p) ≡ field 7 links
  link_part = behind 6 learneds (field 7 links) (record_of head p) (learned_at (cells_of head)) _ learneds_long learned_part

  pub head_read : head_of (record_of head p) ≡ head
  unfolding record_of head_of
  head_read = λ i. record {
    width = head.width;
    height = head.height;
    goal = div-add-mod' head.goal 256 i;
    cell = div-add-mod' head.cell 256 i;
  }

  -- each entry is read as it was written
  ground_read : ((c : ℕ) → c < cells_of head → get_or p.ground c 0 ≤ 1) → (c : ℕ) → c < cells_of head
      → ground_in (record_of head p) c ≡ get_or p.ground c 0
  unfolding ground_in ground_byte
  ground_read b c l =
      let rest = field 6 learneds ++ field 7 links in
      let e = part_entry 5 (ground_size (cells_of head)) 1 (ground_byte (cells_of head) p.ground) rest (λ i. refl) (c / 8) 0 (c / 8) (omega arith)
      (omega arith) (omega arith) in
      rw (ground_part, e) (ground_bit (cells_of head) p.ground b c l)

  learned_read : (c : ℕ) → c < cells_of head → learned_in (cells_of head) (record_of head p) c ≡ get_or p.learned c 0
  unfolding learned_in learned_bytes
  learned_read c l =
      let e = part_entry 6 (cells_of head) 2 (learned_bytes p.learned) (field 7 links) (λ i. refl) c in
      rw learned_part (omega (arith, e 0 (2 * c) l (omega arith) (omega arith), e 1 (2 * c + 1) l (omega arith) (omega arith)))

  link_read : (c : ℕ) → c < cells_of head → link_in (cells_of head) (record_of head p) c ≡ get_or p.link c 0
  unfolding link_in
  link_read c l = rw link_part (entry_of 7 _ _ links c ∙ get_or-take (cells_of head) p.link c 0 l)

  pub entries_read : (q : Lent) → Room (cells_of head) q → ((c : ℕ) → c < cells_of head → get_or p.ground c 0 ≤ 1)
      → SameEntries (cells_of head) p (read_into (cells_of head) (record_of head p) q)
  entries_read q r b =
      let t = read_in (cells_of head) (record_of head p) q r in
      record {
        ground = λ c l. sym (t.ground c l ∙ ground_read b c l);
        learned = λ c l. sym (t.learned c l ∙ learned_read c l);
        link = λ c l. sym (t.link c l ∙ link_read c l);
      }
