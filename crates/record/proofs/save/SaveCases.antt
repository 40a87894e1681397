-- The record out of its fields, and save's verdict and answer in each of their cases.
-- Assumes nothing.
use Rattle.std.specs.Prelude.{Ok, Err}
use Prim.Native.Nat.{ℕ, ◌≤◌}
use mathlib.Core.Path.{◌≡◌, refl, sym, ap, ◌∙◌}
use mathlib.Core.Bool.{false}
use mathlib.Core.List.{List, [], ◌∷◌, ◌++◌, append_assoc}
use native.Mathlib.Omega.{arith}
use borrow.Author.Tests.{ltb-false}
use lib.Dec.{ltb, eqb}
use lib.ListN.{length, take, length-append}
use Rattle.model.specs.Plot.{max_side, max_cells, bad_side, bad_sides}
use Rattle.model.specs.Lists.{gathered}
use Rattle.model.specs.Lent.{Lent, fronted}
use Rattle.model.specs.Head.{cells_of}
use Rattle.model.specs.Refusals.{acceptance}
use Rattle.model.specs.Record.{big, field, ground_size, ground_byte, learned_bytes, record_of, height_at, goal_at, cell_at, ground_at, learned_at, link_at}
use Rattle.model.specs.Record.{record_length}
use Rattle.model.specs.Store.{AfterSave, after_save, saved_as, save_check, saved}
use Rattle.model.specs.declared.Head.{Head}
use Rattle.model.specs.declared.Reason.{Reason}
use Rattle.model.specs.Verdict.{Verdict}
use Rattle.model.specs.declared.Saved.{Saved}
use Rattle.model.proofs.Lists.Bools.{or_false}
use Rattle.model.proofs.Calls.Acceptance.{accepts_held}
use Rattle.model.proofs.Record.SaveAndLoad.{save_check_law}
use Rattle.model.proofs.Calls.OneResult.{coincide}
use Rattle.record.specs.Written.{Packable, Headable, head_fields}
use Rattle.record.proofs.save.GrowingFront.{from, into, front_part}
use Rattle.record.proofs.save.FieldWritten.{learned_long, ground_long}

-- good sides fit a byte
pub sides_low : (w h : ℕ) → bad_sides w h ≡ false → (w ≤ max_side) × (h ≤ max_side)
unfolding bad_sides
sides_low w h e =
    let t = or_false (bad_side w) (bad_side h) e in
    (ltb-false max_side w (or_false (eqb w 0) (ltb max_side w) t.0).1, ltb-false max_side h (or_false (eqb h 0) (ltb max_side h) t.1).1)

-- The head's fields, each in the part behind the one before it
pub head_done : (head : Head) (l₀ l t₂ t₃ t₄ : List ℕ) → l ≡ fronted (field 1 (head.width ∷ [])) l₀
    → t₂ ≡ fronted (field 2 (head.height ∷ [])) (from height_at l)
    → t₃ ≡ fronted (field 3 (big head.goal)) (from goal_at (into height_at l t₂))
    → t₄ ≡ fronted (field 4 (big head.cell)) (from cell_at (into goal_at (into height_at l t₂) t₃))
    → into cell_at (into goal_at (into height_at l t₂) t₃) t₄ ≡ fronted (head_fields head) l₀
unfolding head_fields
head_done head l₀ l t₂ t₃ t₄ e₁ e₂ e₃ e₄ =
    let f₁ = field 1 (head.width ∷ []) in
    let f₂ = field 2 (head.height ∷ []) in
    let f₃ = field 3 (big head.goal) in
    let two = front_part f₁ l₀ height_at refl l t₂ f₂ e₁ e₂ in
    let three = front_part (f₁ ++ f₂) l₀ goal_at refl (into height_at l t₂) t₃ f₃ two e₃ in
    front_part (f₁ ++ f₂ ++ f₃) l₀ cell_at refl (into goal_at (into height_at l t₂) t₃) t₄ (field 4 (big head.cell)) three e₄

module _ (head : Head) (p : Lent) where
  abbrev grounds : List ℕ
  grounds = field 5 (gathered (ground_size (cells_of head)) (ground_byte (cells_of head) p.ground))

  abbrev learneds : List ℕ
  learneds = field 6 (gathered (cells_of head) (learned_bytes p.learned))

  abbrev links : List ℕ
  links = field 7 (take (cells_of head) p.link)

  learned_begins : length (head_fields head ++ grounds) ≡ learned_at (cells_of head)
  unfolding head_fields
  learned_begins = omega (arith, ground_long (cells_of head) p.ground (ground_size (cells_of head)))

  link_begins : length (head_fields head ++ grounds ++ learneds) ≡ link_at (cells_of head)
  link_begins =
      length-append (head_fields head ++ grounds) learneds ∙ omega (arith, learned_begins, learned_long p.learned (cells_of head))

  fields_record : head_fields head ++ grounds ++ learneds ++ links ≡ record_of head p
  unfolding head_fields record_of
  fields_record =
      append_assoc (head_fields head ++ grounds) learneds links ∙ append_assoc (head_fields head) grounds (learneds ++ links)

  head_long : length (head_fields head) ≡ ground_at
  unfolding head_fields
  head_long = refl

  -- The record: the head's fields, and each other field in the part behind the one before it
  pub record_done : (l₀ l t₁ t₂ t₃ : List ℕ) (a b : ℕ) → a ≡ learned_at (cells_of head) → b ≡ link_at (cells_of head) → l ≡ fronted (head_fields head) l₀
      → t₁ ≡ fronted grounds (from ground_at l) → t₂ ≡ fronted learneds (from a (into ground_at l t₁))
      → t₃ ≡ fronted links (from b (into a (into ground_at l t₁) t₂))
      → into b (into a (into ground_at l t₁) t₂) t₃ ≡ fronted (record_of head p) l₀
  record_done l₀ l t₁ t₂ t₃ a b i j e e₁ e₂ e₃ =
      let h = head_fields head in
      let one = front_part h l₀ ground_at head_long l t₁ grounds e e₁ in
      let two = front_part (h ++ grounds) l₀ a (learned_begins ∙ sym i) (into ground_at l t₁) t₂ learneds one e₂ in
      front_part (h ++ grounds ++ learneds) l₀ b (link_begins ∙ sym j) (into a (into ground_at l t₁) t₂) t₃ links two e₃
      ∙ ap (λ (s : List ℕ). fronted s l₀) fields_record

  -- What save's tests give to the writers ---------------------------------------------------------------------------------------

  module _ (buffer : List ℕ) (ok : save_check head p buffer ≡ Ok tt) where
    pub save_few : cells_of head ≤ max_cells
    save_few = (save_check_law head p buffer ok).0.placed.few

    pub save_room : record_length (cells_of head) ≤ length buffer
    save_room = (save_check_law head p buffer ok).1

    pub save_learneds : cells_of head ≤ length p.learned
    save_learneds = (save_check_law head p buffer ok).0.room.learneds

    pub save_links : cells_of head ≤ length p.link
    save_links = (save_check_law head p buffer ok).0.room.links

    pub save_packable : Packable (cells_of head) p.ground
    save_packable =
        let held = (save_check_law head p buffer ok).0 in
        record { room = held.room.grounds; bits = held.fit.ground }

    pub save_headable : Headable head buffer
    save_headable =
        let t = save_check_law head p buffer ok in
        let placed = t.0.placed in
        record { sides = placed.sides; goal_on = placed.goal_on; cart_on = placed.cart_on; room = omega (arith, t.1) }

  -- The verdict; v is what the tests of the data said ---------------------------------------------------------------------------

  pub verdict_few : {v : Verdict} → v ≡ acceptance head p → v ≡ Ok tt → cells_of head ≤ max_cells
  verdict_few e q = (accepts_held head p (sym e ∙ q)).placed.few

  -- The answer; v is save's verdict -----------------------------------------------------------------------------------------------

  module _ {v : Verdict} (buffer : List ℕ) (e : v ≡ save_check head p buffer) where
    pub save_refused : {why : Reason} → v ≡ Err why → after_save (saved_as head (Err why)) buffer ≡ saved head p buffer
    unfolding saved
    save_refused q = rw (saved, sym e ∙ q)

    -- k is the record's length, l the buffer with the record
    pub save_written : (k : ℕ) (l : List ℕ) → v ≡ Ok tt → k ≡ record_length (cells_of head) → l ≡ fronted (record_of head p) buffer
        → after_save (saved_as head (Ok k)) l ≡ saved head p buffer
    unfolding saved
    save_written k l q n is = rw (saved, sym e ∙ q, n, is)

  -- what save's promise allows is one: one answer, and one buffer
  pub save_coincides : (buffer : List ℕ) {r r' : Saved} {l l' : List ℕ} → after_save r l ≡ saved head p buffer → after_save r' l' ≡ saved head p buffer
      → (r ≡ r') × (l ≡ l')
  save_coincides buffer e f =
      let q = coincide e f in (ap (λ (a : AfterSave). a.answer) q, ap (λ (a : AfterSave). a.buffer) q)

-- what save's tests leave
pub ruleset save_leaves = (save_few, save_room, save_learneds, save_links, save_packable, save_headable)
