-- "`drive` reads standard input: a line "W H start goal", then H lines of W characters, `.` free and `#` blocked: the true ground."
use Rattle.std.specs.Prelude.{ℕ, ◌+◌, ◌-◌, ◌*◌, ◌/◌, ◌<◌, ◌≡◌, Bool, true, not, cond, ◌&&◌, Option, Some, None, List, [], ◌∷◌, ◌++◌, get_or, leb, ltb, eqb}
use Rattle.model.specs.Lists.{gathered}
use Rattle.model.specs.Plot.{bad_sides}
use Rattle.model.specs.Head.{head_at, cells_of, cells_named}
use Rattle.model.specs.Refusals.{any_outside}
use Rattle.model.specs.Record.{same}
use Rattle.model.specs.declared.Head.{Head}
use Rattle.printing.specs.Text.{line_feed, space, hash, dot, number}

-- the plot, with the cart on the start, and the true ground: 0 free, 1 blocked
pub record Drawing : Type 0 where
  pub head : Head
  pub truth : List ℕ

-- Its text --------------------------------------------------------------------------------------------------------------------------

abbrev pub character : (truth : ℕ) → ℕ
character truth = cond (eqb truth 0) dot hash

abbrev pub cell_text : (w : ℕ) (truth : List ℕ) (row column : ℕ) → List ℕ
cell_text w truth row column = character (get_or truth (row * w + column) 0) ∷ []

unfoldable pub row_text : (w : ℕ) (truth : List ℕ) (row : ℕ) → List ℕ
row_text w truth row = gathered w (cell_text w truth row) ++ (line_feed ∷ [])

-- "one space apart; .. every line ends in a line feed, and nothing follows the last"
unfoldable pub text : Drawing → List ℕ
text d =
    let head = d.head in
    number head.width space ++ number head.height space ++ number head.cell space ++ number head.goal line_feed
    ++ gathered head.height (row_text head.width d.truth)

-- "sides are 1 to 64, cells below N", and no "start on `#`"
unfoldable pub fine : Drawing → Bool
fine d =
    let head = d.head in
    not (bad_sides head.width head.height)
    && (not (any_outside (cells_of head) (cells_named head)) && eqb (get_or d.truth head.cell 0) 0)

-- Reading it ------------------------------------------------------------------------------------------------------------------------

abbrev pub is_digit : ℕ → Bool
is_digit c = leb 48 c && leb c 57

-- one digit more. (A number of five digits is no side and no cell, whatever comes behind them.)
abbrev pub grown : (v c : ℕ) → ℕ
grown v c = cond (ltb v 10000) (v * 10 + (c - 48)) v

-- the number at the front of some bytes, of which v was read, ..
unfoldable pub value : (v : ℕ) → List ℕ → ℕ
value v [] = v
value v (c ∷ cs) = cond (is_digit c) (value (grown v c) cs) v

-- .. and what comes behind it and one character more
unfoldable pub behind : List ℕ → List ℕ
behind [] = []
behind (c ∷ cs) = cond (is_digit c) (behind cs) cs

-- cell c of the rows, each of w characters and a line feed
abbrev pub truth_at : (rows : List ℕ) (at : ℕ) → ℕ
truth_at rows at = cond (eqb (get_or rows at 0) hash) 1 0

unfoldable pub truth_in : (w : ℕ) (rows : List ℕ) (c : ℕ) → ℕ
truth_in w rows c = truth_at rows (c + c / w)

abbrev pub cell_in : (w : ℕ) (rows : List ℕ) (c : ℕ) → List ℕ
cell_in w rows c = truth_in w rows c ∷ []

unfoldable pub drawing_in : List ℕ → Drawing
drawing_in bytes =
    let height = behind bytes in
    let start = behind height in
    let goal = behind start in
    let head = head_at (value 0 bytes) (value 0 height) (value 0 goal) (value 0 start) in
    record { head = head; truth = gathered (cells_of head) (cell_in head.width (behind goal)) }

-- "Input of another form, or a start on `#`, prints `bad input` only": the bytes are the text of the drawing that is read out of them
unfoldable pub well_formed : List ℕ → Bool
well_formed bytes = fine (drawing_in bytes) && same bytes (text (drawing_in bytes))

-- what the reader answers: the plot with the cart on the start, or none, which is "bad input"
unfoldable pub drawn_in : List ℕ → Option Head
drawn_in bytes = cond (well_formed bytes) (Some (drawing_in bytes).head) None

-- and what it leaves: the true ground, on every cell of the plot
pub record Drew (bytes : List ℕ) (answer : Option Head) (truth : List ℕ) : Type 0 where
  pub is : answer ≡ drawn_in bytes
  pub in_truth : well_formed bytes ≡ true → (c : ℕ) → c < cells_of (drawing_in bytes).head → get_or truth c 0 ≡ get_or (drawing_in bytes).truth c 0
