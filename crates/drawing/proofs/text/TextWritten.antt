-- The text of a drawing is written part by part, and bytes are compared with it.
-- Assumes nothing.
use Rattle.std.specs.Prelude.{nat_eq}
use Rattle.std.specs.List.{between}
use Rattle.std.specs.Cmp.Lexicographic.{pointwise}
use Rattle.std.proofs.lemmas.List.Edits.{length-between, get_or-between}
use Prim.Native.Nat.{ℕ, ◌+◌, ◌*◌, ◌≤◌, ◌<◌}
use mathlib.Core.Path.{◌≡◌, refl, sym, ap, ap₂, ◌∙◌}
use mathlib.Core.Bool.{Bool, true, false, ◌&&◌}
use mathlib.Core.List.{List, [], ◌∷◌, ◌++◌}
use native.Mathlib.Numerals.{add-one}
use native.Mathlib.Nat.{mul-one, mul_comm, mul-le-mul, suc-mul, le_refl}
use native.Mathlib.Omega.{arith}
use borrow.Author.Tests.{ltb-false, eq-eqb}
use lib.Dec.{eqb}
use lib.Seq.{take_all}
use lib.ListN.{length, get_or, take, replicate, length-append, length-replicate}
use Rattle.model.specs.Lists.{gathered}
use Rattle.model.specs.Plot.{max_side, bad_side, bad_sides}
use Rattle.model.specs.Head.{cells_of}
use Rattle.model.specs.declared.Head.{Head}
use Rattle.model.specs.Record.{same}
use Rattle.model.proofs.Lists.Bools.{or_false, and_false}
use Rattle.model.proofs.Lists.Gathered.{length_gathered}
use Rattle.model.proofs.Record.RecordLaws.{same_true}
use Rattle.printing.specs.Text.{line_feed, space, number, Put}
use Rattle.printing.proofs.Appended.{put_nothing, put_then, put_as, put_long, number_few, number_kept}
use Rattle.drawing.specs.Drawing.{character, cell_text, row_text, text}
use Rattle.drawing.specs.Reading.{drawn_as}

-- Parts, one behind the other -----------------------------------------------------------------------------------------------------------

module _ {at : ℕ} {l₀ : List ℕ} (part : ℕ → List ℕ) where
  pub gather_begin : Put at (gathered 0 part) l₀ at l₀
  unfolding gathered
  gather_begin = put_nothing at l₀

  pub gather_next : (i : ℕ) {m next : ℕ} {l l' : List ℕ} → Put at (gathered i part) l₀ m l → Put m (part i) l next l'
      → at + length (gathered i part) ≤ length l₀
      → Put at (gathered (i + 1) part) l₀ next l'
  unfolding gathered
  gather_next i p q room = put_as (put_then p q room) (sym (ap (λ (k : ℕ). gathered k part) (add-one i)))

-- A row: its cells, and a line feed ----------------------------------------------------------------------------------------------------

module _ (w : ℕ) (truth : List ℕ) (row : ℕ) where
  pub cells_long : (i : ℕ) → length (gathered i (cell_text w truth row)) ≡ i
  cells_long i = length_gathered 1 (cell_text w truth row) (λ _. refl) i ∙ mul-one i

  pub row_long : length (row_text w truth row) ≡ w + 1
  unfolding row_text
  row_long = length-append (gathered w (cell_text w truth row)) (line_feed ∷ []) ∙ ap (λ (k : ℕ). k + 1) (cells_long w)

  -- the row's part of the true ground
  module _ (holds : row * w + w ≤ length truth) where
    pub part_long : length (between (row * w) (row * w + w) truth) ≡ w
    part_long = length-between truth (row * w) (row * w + w) holds ∙ omega arith

    pub part_text : {v i : ℕ} → v ≡ character (get_or (between (row * w) (row * w + w) truth) i 0) → i < w → v ∷ [] ≡ cell_text w truth row i
    part_text {v} {i} e inside =
        ap (λ (k : ℕ). k ∷ []) (e ∙ ap character (get_or-between truth (row * w) (row * w + w) i 0 (omega arith)))

  module _ {at : ℕ} {l₀ : List ℕ} (room : at + w < length l₀) where
    pub cell_room : (i : ℕ) {m : ℕ} {l : List ℕ} → i ≤ w → Put at (gathered i (cell_text w truth row)) l₀ m l → m < length l
    cell_room i inside p = omega (arith, p.behind, cells_long i, put_long p (omega (arith, cells_long i)))

    pub cell_next : (i : ℕ) {m next : ℕ} {l l' : List ℕ} → i < w → Put at (gathered i (cell_text w truth row)) l₀ m l
        → Put m (cell_text w truth row i) l next l'
        → Put at (gathered (i + 1) (cell_text w truth row)) l₀ next l'
    cell_next i inside p q = gather_next (cell_text w truth row) i p q (omega (arith, cells_long i))

    pub row_end : (i : ℕ) {m next : ℕ} {l l' : List ℕ} → i ≡ w → Put at (gathered i (cell_text w truth row)) l₀ m l → Put m (line_feed ∷ []) l next l'
        → Put at (row_text w truth row) l₀ next l'
    unfolding row_text
    row_end i e p q = put_as (put_then p q (omega (arith, cells_long i))) (ap (λ (k : ℕ). gathered k (cell_text w truth row) ++ (line_feed ∷ [])) e)

-- The rows ---------------------------------------------------------------------------------------------------------------------------

-- fewer rows are within more
pub rows_within : (k : ℕ) {i h : ℕ} → i < h → i * k + k ≤ h * k
rows_within k {i} {h} l = rw (suc-mul i k) at (mul-le-mul l (le_refl k))

module _ (w : ℕ) (truth : List ℕ) where
  pub rows_long : (i : ℕ) → length (gathered i (row_text w truth)) ≡ i * (w + 1)
  rows_long i = length_gathered (w + 1) (row_text w truth) (row_long w truth) i

  module _ {at h : ℕ} {l₀ : List ℕ} (room : at + h * (w + 1) ≤ length l₀) where
    pub row_room : (i : ℕ) {m : ℕ} {l : List ℕ} → i < h → Put at (gathered i (row_text w truth)) l₀ m l → m + w < length l
    row_room i inside p =
        let most = rows_within (w + 1) inside in
        omega (arith, most, p.behind, rows_long i, put_long p (omega (arith, most, rows_long i)))

    pub row_next : (i : ℕ) {m next : ℕ} {l l' : List ℕ} → i < h → Put at (gathered i (row_text w truth)) l₀ m l → Put m (row_text w truth i) l next l'
        → Put at (gathered (i + 1) (row_text w truth)) l₀ next l'
    row_next i inside p q = gather_next (row_text w truth) i p q (omega (arith, rows_long i, rows_within (w + 1) inside))

-- The first line -----------------------------------------------------------------------------------------------------------------------

-- numbers from the front of l on: so many bytes at most, and as many in all as before
pub record Lined (text l : List ℕ) (most m : ℕ) (l' : List ℕ) : Type 0 where
  pub pen : Put 0 text l m l'
  pub few : m ≤ most
  pub long : length l' ≡ length l

line_begin : (n end : ℕ) {l : List ℕ} {m : ℕ} {l' : List ℕ} → 20 < length l → Put 0 (number n end) l m l' → Lined (number n end) l 21 m l'
line_begin n end room p = record { pen = p; few = number_few n end p; long = number_kept n end p room }

line_more : (n end : ℕ) {text l : List ℕ} {most m next : ℕ} {l' l'' : List ℕ} → Lined text l most m l' → most + 20 < length l
    → Put m (number n end) l' next l''
    → Lined (text ++ number n end) l (most + 21) next l''
line_more n end {text} {l} {most} {m} a room p =
    let kept = number_kept n end p (omega (arith, a.few, a.long)) in
    record {
      pen = put_then a.pen p (omega (arith, a.pen.behind, a.few));
      few = omega (arith, a.few, number_few n end p);
      long = kept ∙ a.long;
    }

-- the rows of the largest plot, each with a line feed
abbrev pub longest_rows : ℕ
longest_rows = max_side * (max_side + 1)

-- there is room for the text of a drawing of good sides (four numbers of at most 21 bytes, and its rows), and truth has all cells
pub record Drawable (head : Head) (truth out : List ℕ) : Type 0 where
  pub sides : bad_sides head.width head.height ≡ false
  pub truths : cells_of head ≤ length truth
  pub room : 4 * 21 + longest_rows ≤ length out

pub roomy : (head : Head) {truth : List ℕ} → bad_sides head.width head.height ≡ false → cells_of head ≤ length truth
    → Drawable head truth (replicate (4 * 21 + longest_rows) 0)
roomy head s t = record { sides = s; truths = t; room = omega (arith, length-replicate {A = ℕ} (4 * 21 + longest_rows) 0) }

module _ (head : Head) (truth : List ℕ) {out : List ℕ} (d : Drawable head truth out) where
  rows_few : head.height * (head.width + 1) ≤ longest_rows
  unfolding bad_sides
  rows_few =
      let t = or_false (bad_side head.width) (bad_side head.height) d.sides in
      let w : head.width ≤ max_side = ltb-false max_side head.width (or_false (eqb head.width 0) _ t.0).1 in
      let h : head.height ≤ max_side = ltb-false max_side head.height (or_false (eqb head.height 0) _ t.1).1 in
      let longer : head.width + 1 ≤ max_side + 1 = omega (arith, w) in
      mul-le-mul h longer

  pub truth_room : head.height * head.width ≤ length truth
  truth_room = rw (mul_comm head.width head.height) at d.truths

  -- behind each number of the first line, whatever it is, there is room for the next, and behind the last for the rows
  module _ (n₁ : ℕ) {m₁ : ℕ} {l₁ : List ℕ} (p : Put 0 (number n₁ space) out m₁ l₁) where
    first : Lined (number n₁ space) out 21 m₁ l₁
    first = line_begin n₁ space (omega (arith, d.room)) p

    pub height_room : m₁ + 20 < length l₁
    height_room = omega (arith, d.room, first.few, first.long)

    module _ (n₂ : ℕ) {m₂ : ℕ} {l₂ : List ℕ} (q : Put m₁ (number n₂ space) l₁ m₂ l₂) where
      second : Lined (number n₁ space ++ number n₂ space) out (21 + 21) m₂ l₂
      second = line_more n₂ space first (omega (arith, d.room)) q

      pub start_room : m₂ + 20 < length l₂
      start_room = omega (arith, d.room, second.few, second.long)

      module _ (n₃ : ℕ) {m₃ : ℕ} {l₃ : List ℕ} (r : Put m₂ (number n₃ space) l₂ m₃ l₃) where
        third : Lined (number n₁ space ++ number n₂ space ++ number n₃ space) out (21 + 21 + 21) m₃ l₃
        third = line_more n₃ space second (omega (arith, d.room)) r

        pub goal_room : m₃ + 20 < length l₃
        goal_room = omega (arith, d.room, third.few, third.long)

        module _ (n₄ : ℕ) {m₄ : ℕ} {l₄ : List ℕ} (t : Put m₃ (number n₄ line_feed) l₃ m₄ l₄) where
          line : Lined (number n₁ space ++ number n₂ space ++ number n₃ space ++ number n₄ line_feed) out (4 * 21) m₄ l₄
          line = line_more n₄ line_feed third (omega (arith, d.room)) t

          pub rows_room : m₄ + head.height * (head.width + 1) ≤ length l₄
          rows_room = omega (arith, d.room, line.few, line.long, rows_few)

  -- with the head's own four it is the drawing's text
  pub text_done : {m₁ m₂ m₃ m₄ next : ℕ} {l₁ l₂ l₃ l₄ l' : List ℕ} → Put 0 (number head.width space) out m₁ l₁
      → Put m₁ (number head.height space) l₁ m₂ l₂ → Put m₂ (number head.cell space) l₂ m₃ l₃ → Put m₃ (number head.goal line_feed) l₃ m₄ l₄
      → Put m₄ (gathered head.height (row_text head.width truth)) l₄ next l' → Put 0 (text (drawn_as head truth)) out next l'
  unfolding text
  text_done p q r t u =
      let a = line head.width p head.height q head.cell r head.goal t in
      put_then a.pen u (omega (arith, a.pen.behind, a.few, d.room))

-- Comparing ----------------------------------------------------------------------------------------------------------------------------

-- as slices are compared
pub compared : (a b : List ℕ) → pointwise nat_eq a b ≡ same a b
unfolding same
compared [] [] = refl
compared [] (y ∷ ys) = refl
compared (x ∷ xs) [] = refl
compared (x ∷ xs) (y ∷ ys) = ap (λ (b : Bool). eqb x y && b) (compared xs ys)

-- and where each is a text by another name
pub compared_as : (s : List ℕ) {a b t : List ℕ} {r : Bool} → r ≡ pointwise nat_eq a b → a ≡ s → b ≡ t → r ≡ same s t
compared_as s {a} {b} r p q = r ∙ compared a b ∙ ap₂ same p q

-- where their lengths are compared too, which says no more
pub compared_long : {s t : List ℕ} {n : ℕ} → n ≡ 0 + length t → {a b : List ℕ} {r : Bool} → r ≡ pointwise nat_eq a b → a ≡ s → b ≡ t
    → (eqb (length s) n && r) ≡ same s t
compared_long {s} {t} {n} long {a} {b} {r} e p q =
    let n_is : n ≡ length t = omega (arith, long) in
    rw (compared_as s e p q, n_is) (go (same s t) refl)
  where
    go : (r : Bool) → same s t ≡ r → (eqb (length s) (length t) && r) ≡ r
    go true e = rw (same_true s t e, eq-eqb (length t) (length t) refl)
    go false e = and_false (eqb (length s) (length t))

-- the front of a text that is all of it
pub front_is : {text l : List ℕ} → l ≡ text → (k : ℕ) → length text ≤ k → take k l ≡ text
front_is {text} {l} e k i = rw e (take_all k text i)
