-- THE TEXT OF EVERY FINE DRAWING IS WELL FORMED, and reads back as that drawing. So what is well formed is just what is the text of
-- a fine drawing. Assumes nothing.
use Prim.Native.Nat.{ℕ, zero, suc, ◌+◌, ◌-◌, ◌*◌, ◌/◌, ◌%◌, ◌^◌, ◌≤◌, ◌<◌}
use mathlib.Core.Path.{◌≡◌, refl, sym, ap, ◌∙◌}
use mathlib.Core.Bool.{Bool, true, false, not, cond}
use mathlib.Core.List.{List, [], ◌∷◌, ◌++◌, append_assoc, append-nil}
use native.Mathlib.Nat.{mul-one, mul-suc, mul_comm, mul-le-mul, le_refl, mod-lt, div-add-mod', div-lt_iff_lt-mul, pow-succ'}
use native.Mathlib.Numerals.{add-one}
use native.Mathlib.Omega.{arith}
use borrow.Author.Tests.{lt-ltb, le-leb, ltb-true, not-true}
use lib.Dec.{leb, ltb, eqb}
use lib.ListN.{length, get_or}
use lib.Seq.{ext_get_or}
use Rattle.model.specs.Lists.{gathered}
use Rattle.model.specs.Plot.{max_cells, cells, bad_sides}
use Rattle.model.specs.Head.{cells_of}
use Rattle.model.proofs.Lists.Bools.{and_left, and_right, and_both}
use Rattle.model.proofs.Lists.Gathered.{length_gathered, get_d_gathered}
use Rattle.model.proofs.Record.RecordLaws.{true_same}
use Rattle.model.proofs.Calls.Acceptance.{side_wide, cells_few, row_within, both_on}
use Rattle.printing.specs.Text.{line_feed, space, hash, digit, digits, decimal, number}
use Rattle.drawing.specs.Drawing.{Drawing, character, cell_text, row_text, text, fine, is_digit, value, behind, truth_in, cell_in, drawing_in}
use Rattle.drawing.specs.Drawing.{well_formed}
use Rattle.drawing.proofs.text.TextWritten.{row_long}
use Rattle.drawing.proofs.ReadCases.{singles}

-- Numbers -------------------------------------------------------------------------------------------------------------------------------

digit_is : (d : ℕ) → d < 10 → is_digit (digit d) ≡ true
digit_is d few = and_both (leb 48 (48 + d)) (leb (48 + d) 57) (le-leb 48 (48 + d) (omega arith)) (le-leb (48 + d) 57 (omega arith))

module _ (d : ℕ) (few : d < 10) (rest : List ℕ) where
  one_digit : (v : ℕ) → v < 10000 → value v (digit d ∷ rest) ≡ value (v * 10 + d) rest
  unfolding value
  one_digit v low =
      let m : v * 10 + (48 + d - 48) ≡ v * 10 + d = omega arith in
      rw (value, digit_is d few, lt-ltb v 10000 low, m) refl

  digit_behind : behind (digit d ∷ rest) ≡ behind rest
  unfolding behind
  digit_behind = rw (behind, digit_is d few) refl

last : (n : ℕ) → n % 10 < 10
last n = omega arith

digits_read : (k n : ℕ) (rest : List ℕ) → n < 10 ^ (suc k) → n < 10000 → value 0 (digits k n ++ rest) ≡ value n rest
unfolding digits
digits_read zero n rest short low =
    let e : 0 * 10 + n % 10 ≡ n = omega (arith, short) in
    one_digit (n % 10) (last n) rest 0 (omega arith) ∙ rw e refl
digits_read (suc k) n rest short low = go (ltb n 10) refl (digits_read k (n / 10) (digit (n % 10) ∷ rest))
  where
    go : (b : Bool) → ltb n 10 ≡ b
        → (n / 10 < 10 ^ (suc k) → n / 10 < 10000 → value 0 (digits k (n / 10) ++ (digit (n % 10) ∷ rest)) ≡ value (n / 10) (digit (n % 10) ∷ rest))
        → value 0 (cond b (digit n ∷ []) (digits k (n / 10) ++ (digit (n % 10) ∷ [])) ++ rest) ≡ value n rest
    go true e more = let z : 0 * 10 + n ≡ n = omega arith in one_digit n (ltb-true n 10 e) rest 0 (omega arith) ∙ rw z refl
    go false e more =
        let s : 10 ^ (suc (suc k)) ≡ 10 * 10 ^ (suc k) = pow-succ' 10 (suc k) in
        let z : n / 10 * 10 + n % 10 ≡ n = omega arith in
        rw (append_assoc (digits k (n / 10)) (digit (n % 10) ∷ []) rest) (more (omega (arith, short, s)) (omega (arith, low)))
        ∙ one_digit (n % 10) (last n) rest (n / 10) (omega (arith, low)) ∙ rw z refl

digits_behind : (k n : ℕ) (rest : List ℕ) → behind (digits k n ++ rest) ≡ behind rest
unfolding digits
digits_behind zero n rest = digit_behind (n % 10) (last n) rest
digits_behind (suc k) n rest = go (ltb n 10) refl (digits_behind k (n / 10) (digit (n % 10) ∷ rest))
  where
    go : (b : Bool) → ltb n 10 ≡ b → behind (digits k (n / 10) ++ (digit (n % 10) ∷ rest)) ≡ behind (digit (n % 10) ∷ rest)
        → behind (cond b (digit n ∷ []) (digits k (n / 10) ++ (digit (n % 10) ∷ [])) ++ rest) ≡ behind rest
    go true e more = digit_behind n (ltb-true n 10 e) rest
    go false e more = rw (append_assoc (digits k (n / 10)) (digit (n % 10) ∷ []) rest) more ∙ digit_behind (n % 10) (last n) rest

module _ (n end : ℕ) (rest : List ℕ) (low : n < 10000) (e : is_digit end ≡ false) where
  ends_value : value n (end ∷ rest) ≡ n
  unfolding value
  ends_value = rw (value, e) refl

  ends_behind : behind (end ∷ rest) ≡ rest
  unfolding behind
  ends_behind = rw (behind, e) refl

  number_read : value 0 (number n end ++ rest) ≡ n
  number_read =
      let short : n < 10 ^ 20 = omega (arith, low) in
      ap (value 0) (append_assoc (decimal n) (end ∷ []) rest) ∙ digits_read 19 n (end ∷ rest) short low ∙ ends_value

  number_behind : behind (number n end ++ rest) ≡ rest
  number_behind = ap behind (append_assoc (decimal n) (end ∷ []) rest) ∙ digits_behind 19 n (end ∷ rest) ∙ ends_behind

-- Rows --------------------------------------------------------------------------------------------------------------------------------

-- a drawing's truth is a bit for each cell, and no more
pub record Whole (d : Drawing) : Type 0 where
  pub long : length d.truth ≡ cells_of d.head
  pub bits : (c : ℕ) → c < cells_of d.head → get_or d.truth c 0 ≤ 1

read_bit : (t : ℕ) → t ≤ 1 → cond (eqb (character t) hash) 1 0 ≡ t
read_bit zero l = refl
read_bit (suc zero) l = refl
read_bit (suc (suc t)) l = absurd (omega arith)

module _ (w h : ℕ) (truth : List ℕ) (wide : 0 < w) where
  -- the character of column j in a row
  in_row : (row j : ℕ) → j < w → get_or (row_text w truth row) j 0 ≡ character (get_or truth (row * w + j) 0)
  unfolding row_text
  in_row row j inside =
      let at : j * 1 + 0 ≡ j = omega arith in
      rw at at (get_d_gathered 1 (cell_text w truth row) (λ _. refl) w 0 (omega arith) (line_feed ∷ []) j inside)

  in_rows : (c : ℕ) → c < cells w h → get_or (gathered h (row_text w truth)) (c + c / w) 0 ≡ character (get_or truth c 0)
  in_rows c inside =
      let row = c / w in
      let j : c % w < w = mod-lt c wide in
      let place : row * (w + 1) + c % w ≡ c + row = omega (arith, div-add-mod' c w, mul-suc row w, ap (λ (k : ℕ). row * k) (add-one w)) in
      let cell : row * w + c % w ≡ c = div-add-mod' c w in
      rw (append-nil, place) at
      (get_d_gathered (w + 1) (row_text w truth) (row_long w truth) h (c % w) (omega (arith, j)) [] row
      ((div-lt_iff_lt-mul wide).1 (rw mul_comm inside)))
      ∙ in_row row (c % w) j ∙ rw cell refl

-- The drawing ---------------------------------------------------------------------------------------------------------------------------

module _ (d : Drawing) (f : fine d ≡ true) (whole : Whole d) where
  abbrev w : ℕ
  w = d.head.width

  abbrev h : ℕ
  h = d.head.height

  rows : List ℕ
  rows = gathered h (row_text w d.truth)

  sides : bad_sides w h ≡ false
  unfolding fine
  sides = not-true (bad_sides w h) (and_left (not (bad_sides w h)) _ f)

  on_both : (d.head.goal < cells_of d.head) × (d.head.cell < cells_of d.head)
  unfolding fine
  on_both = both_on w h d.head.goal d.head.cell (not-true _ (and_left _ _ (and_right (not (bad_sides w h)) _ f)))

  few : cells_of d.head ≤ max_cells
  few = cells_few w h sides

  -- the text, number by number
  from_goal : List ℕ
  from_goal = number d.head.goal line_feed ++ rows

  from_start : List ℕ
  from_start = number d.head.cell space ++ from_goal

  from_height : List ℕ
  from_height = number h space ++ from_start

  text_is : text d ≡ number w space ++ from_height
  unfolding text rows from_goal from_start from_height
  text_is =
      append_assoc (number w space ++ number h space ++ number d.head.cell space) (number d.head.goal line_feed) rows
      ∙ append_assoc (number w space ++ number h space) (number d.head.cell space) from_goal
      ∙ append_assoc (number w space) (number h space) from_start

  low_width : w < 10000
  low_width = omega (arith, row_within w h sides, few)

  low_height : h < 10000
  low_height = let l : 1 * h ≤ w * h = mul-le-mul (side_wide w h sides) (le_refl h) in omega (arith, few, l)

  low_goal : d.head.goal < 10000
  low_goal = omega (arith, few, on_both.0)

  low_cell : d.head.cell < 10000
  low_cell = omega (arith, few, on_both.1)

  width_read : value 0 (text d) ≡ w
  width_read = ap (value 0) text_is ∙ number_read w space from_height low_width refl

  behind_width : behind (text d) ≡ from_height
  behind_width = ap behind text_is ∙ number_behind w space from_height low_width refl

  height_read : value 0 from_height ≡ h
  unfolding from_height
  height_read = number_read h space from_start low_height refl

  behind_height : behind from_height ≡ from_start
  unfolding from_height
  behind_height = number_behind h space from_start low_height refl

  start_read : value 0 from_start ≡ d.head.cell
  unfolding from_start
  start_read = number_read d.head.cell space from_goal low_cell refl

  behind_start : behind from_start ≡ from_goal
  unfolding from_start
  behind_start = number_behind d.head.cell space from_goal low_cell refl

  goal_read : value 0 from_goal ≡ d.head.goal
  unfolding from_goal
  goal_read = number_read d.head.goal line_feed rows low_goal refl

  behind_goal : behind from_goal ≡ rows
  unfolding from_goal
  behind_goal = number_behind d.head.goal line_feed rows low_goal refl

  parts : drawing_in (text d) ≡ record { head = d.head; truth = gathered (cells w h) (cell_in w rows) }
  unfolding drawing_in
  parts = rw (drawing_in, width_read, behind_width, height_read, behind_height, start_read, behind_start, goal_read, behind_goal) refl

  truth_back : gathered (cells w h) (cell_in w rows) ≡ d.truth
  unfolding truth_in rows
  truth_back =
      let n : length (gathered (cells w h) (cell_in w rows)) ≡ cells w h =
      length_gathered 1 (cell_in w rows) (λ _. refl) (cells w h) ∙ mul-one (cells w h) in
      ext_get_or 0 (gathered (cells w h) (cell_in w rows)) d.truth (n ∙ sym whole.long)
      (λ c i.
      let inside : c < cells w h = omega (arith, i, n) in
      singles (truth_in w rows) (cells w h) c inside
      ∙ ap (λ (v : ℕ). cond (eqb v hash) 1 0) (in_rows w h d.truth (side_wide w h sides) c inside)
      ∙ read_bit (get_or d.truth c 0) (whole.bits c inside))

  pub text_reads_back : (well_formed (text d) ≡ true) × (drawing_in (text d) ≡ d)
  unfolding well_formed
  text_reads_back =
      let back : drawing_in (text d) ≡ d = parts ∙ ap (λ (t : List ℕ). record { head = d.head; truth = t }) truth_back in
      (rw (well_formed, back, f, true_same (text d) (text d) refl) refl, back)
