-- What is read and laid out, and found to look so or not, is the answer that the definition has.
-- Assumes nothing.
use Prim.Native.Nat.{ℕ, ◌+◌, ◌*◌, ◌≤◌, ◌<◌}
use mathlib.Core.Path.{◌≡◌, refl, sym, ap, ◌∙◌}
use mathlib.Core.Logic.{◌≢◌}
use mathlib.Core.Bool.{true, false, not, ◌&&◌, false≢true}
use mathlib.Core.List.{List, [], ◌∷◌, ◌++◌, append-nil}
use native.Mathlib.Nat.{mul_comm}
use native.Mathlib.Omega.{arith}
use borrow.Author.Tests.{eq-eqb, ne_eqb, not-true}
use lib.Dec.{eqb}
use lib.ListN.{length, get_or}
use Rattle.std.specs.Prelude.{Some, None}
use Rattle.model.specs.Lists.{filled, gathered}
use Rattle.model.specs.Plot.{max_cells, bad_sides}
use Rattle.model.specs.Head.{cells_of}
use Rattle.model.specs.Record.{same}
use Rattle.model.specs.declared.Head.{Head}
use Rattle.model.proofs.Lists.Bools.{and_left, and_right, and_assoc}
use Rattle.model.proofs.Lists.Filled.{length_filled, filled_at}
use Rattle.model.proofs.Lists.Gathered.{gathered_same, get_d_gathered}
use Rattle.model.proofs.Calls.Acceptance.{cells_few, both_on}
use Rattle.drawing.specs.Drawing.{character, cell_text, row_text, text, fine, behind, truth_in, drawing_in, well_formed, drawn_in, Drew}
use Rattle.drawing.specs.Reading.{on_plot, drawn_as}
use Rattle.drawing.proofs.text.TextWritten.{rows_within}

-- single entries, gathered
pub singles : (entry : ℕ → ℕ) (n c : ℕ) → c < n → get_or (gathered n (λ k. entry k ∷ [])) c 0 ≡ entry c
singles entry n c inside =
    let at : c * 1 + 0 ≡ c = omega arith in
    rw (append-nil, at) at (get_d_gathered 1 (λ k. entry k ∷ []) (λ _. refl) n 0 (omega arith) [] c inside)

-- the drawing of two grounds that agree on the plot is one text
module _ (head : Head) (a b : List ℕ) (e : (c : ℕ) → c < cells_of head → get_or a c 0 ≡ get_or b c 0) where
  row_same : (row : ℕ) → row < head.height → row_text head.width a row ≡ row_text head.width b row
  unfolding row_text
  row_same row i =
      ap (λ (s : List ℕ). s ++ (10 ∷ []))
      (gathered_same head.width (cell_text head.width a row) (cell_text head.width b row)
      (λ column j. ap (λ (v : ℕ). character v ∷ [])
      (e (row * head.width + column) (omega (arith, rows_within head.width i, mul_comm head.width head.height)))))

  pub text_same : text (drawn_as head a) ≡ text (drawn_as head b)
  unfolding text
  text_same = rw (text, gathered_same head.height (row_text head.width a) (row_text head.width b) row_same) refl

-- Good sides and cells on the plot -----------------------------------------------------------------------------------------------------

module _ (head : Head) where
  pub on_sides_good : on_plot head ≡ true → bad_sides head.width head.height ≡ false
  unfolding on_plot
  on_sides_good e = not-true (bad_sides head.width head.height) (and_left (not (bad_sides head.width head.height)) _ e)

  pub on_cells : on_plot head ≡ true → (head.goal < cells_of head) × (head.cell < cells_of head)
  unfolding on_plot
  on_cells e =
      both_on head.width head.height head.goal head.cell (not-true _ (and_right (not (bad_sides head.width head.height)) _ e))

  fine_is : (truth : List ℕ) → fine (drawn_as head truth) ≡ (on_plot head && eqb (get_or truth head.cell 0) 0)
  unfolding fine on_plot
  fine_is truth = and_assoc (not (bad_sides head.width head.height)) _ _

-- The answer ---------------------------------------------------------------------------------------------------------------------------

-- the true ground is read off the rows, on every cell of the plot
pub record TruthFilled (bytes : List ℕ) (head : Head) (truth : List ℕ) : Type 0 where
  pub is : head ≡ (drawing_in bytes).head
  pub on : on_plot head ≡ true
  pub agrees : (c : ℕ) → c < cells_of head → get_or truth c 0 ≡ get_or (drawing_in bytes).truth c 0

module _ (bytes : List ℕ) {truth : List ℕ} where
  bad : well_formed bytes ≡ false → Drew bytes None truth
  unfolding drawn_in
  bad e = record { is = rw (drawn_in, e) refl; in_truth = λ t. absurd (false≢true (sym e ∙ t)) }

  unfine : fine (drawing_in bytes) ≡ false → Drew bytes None truth
  unfolding well_formed
  unfine e = bad (rw (well_formed, e) refl)

  pub bad_off : {head : Head} → head ≡ (drawing_in bytes).head → on_plot head ≡ false → Drew bytes None truth
  bad_off is e = unfine (fine_is (drawing_in bytes).head (drawing_in bytes).truth ∙ rw (← is, e) refl)

  module _ {head : Head} (l : TruthFilled bytes head truth) where
    start_same : get_or truth head.cell 0 ≡ get_or (drawing_in bytes).truth (drawing_in bytes).head.cell 0
    start_same = l.agrees head.cell (on_cells head l.on).1 ∙ ap (λ (k : Head). get_or (drawing_in bytes).truth k.cell 0) l.is

    on_it : on_plot (drawing_in bytes).head ≡ true
    on_it = rw l.is at l.on

    pub bad_start : get_or truth head.cell 0 ≢ 0 → Drew bytes None truth
    bad_start f =
        unfine (fine_is (drawing_in bytes).head (drawing_in bytes).truth
        ∙ rw (on_it, ne_eqb (get_or (drawing_in bytes).truth (drawing_in bytes).head.cell 0) 0 (λ e. f (start_same ∙ e))) refl)

    looks : text (drawn_as head truth) ≡ text (drawing_in bytes)
    looks = text_same head truth (drawing_in bytes).truth l.agrees ∙ ap (λ (k : Head). text (drawn_as k (drawing_in bytes).truth)) l.is

    module _ (free : get_or truth head.cell 0 ≡ 0) where
      decides : well_formed bytes ≡ same bytes (text (drawn_as head truth))
      unfolding well_formed
      decides =
          let good : fine (drawing_in bytes) ≡ true =
          fine_is (drawing_in bytes).head (drawing_in bytes).truth
          ∙ rw (on_it, eq-eqb (get_or (drawing_in bytes).truth (drawing_in bytes).head.cell 0) 0 (sym start_same ∙ free)) refl in
          rw (well_formed, good, looks) refl

      pub bad_looks : same bytes (text (drawn_as head truth)) ≡ false → Drew bytes None truth
      bad_looks e = bad (decides ∙ e)

      pub drawn : same bytes (text (drawn_as head truth)) ≡ true → Drew bytes (Some head) truth
      unfolding drawn_in
      drawn e = record { is = rw (drawn_in, decides, e, ← l.is) refl; in_truth = λ _ c i. l.agrees c (rw l.is i) }

-- the true ground as it was laid, out of the rows
module _ (bytes : List ℕ) {head : Head} {rows : List ℕ} (truth₀ : List ℕ) {truth : List ℕ} {w n : ℕ} (is : head ≡ (drawing_in bytes).head)
    (rest : rows ≡ behind (behind (behind (behind bytes)))) (on : on_plot head ≡ true) (side : w ≡ head.width) (all : n ≡ cells_of head)
    (put : truth ≡ filled n (truth_in w rows) truth₀) (room : max_cells ≤ length truth₀) where
  e : truth ≡ filled (cells_of head) (truth_in head.width rows) truth₀
  e = rw (all, side) at put

  few : cells_of head ≤ max_cells
  few = cells_few head.width head.height (on_sides_good head on)

  pub laid_room : cells_of head ≤ length truth
  laid_room = omega (arith, few, ap length e, length_filled (cells_of head) (truth_in head.width rows) truth₀)

  inside : (c : ℕ) → c < cells_of head → c < cells_of (drawing_in bytes).head
  inside c i = rw is at i

  pub laid : TruthFilled bytes head truth
  unfolding drawing_in truth_in
  laid =
      record {
        is = is;
        on = on;
        agrees = λ c i.
            rw e (filled_at (cells_of head) (truth_in head.width rows) truth₀ (omega (arith, few)) c i)
            ∙ ap (λ (k : Head). truth_in k.width rows c) is
            ∙ ap (λ (l : List ℕ). truth_in (drawing_in bytes).head.width l c) rest
            ∙ sym
            (singles (truth_in (drawing_in bytes).head.width (behind (behind (behind (behind bytes))))) (cells_of (drawing_in bytes).head) c
            (inside c i));
      }
