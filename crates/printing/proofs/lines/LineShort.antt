-- No line is longer than `longest_line`, so a page that has room for it stays as long.
-- Assumes nothing.
use Prim.Native.Nat.{ℕ, ◌+◌, ◌≤◌}
use mathlib.Core.Path.{◌≡◌}
use mathlib.Core.List.{List, [], ◌∷◌, ◌++◌}
use native.Mathlib.Omega.{arith}
use lib.ListN.{length, length-append}
use Rattle.printing.specs.Text.{line_feed, space, decimal, number, Put}
use Rattle.printing.specs.Lines.{blocked, plan, move, arrived, no_way_text, longest_line, line_text}
use Rattle.printing.specs.declared.lines.Line.{Line}
use Rattle.printing.proofs.Appended.{put_long, digits_long}

number_short : (n end : ℕ) → length (number n end) ≤ 21
number_short n end = omega (arith, length-append (decimal n) (end ∷ []), digits_long 19 n)

worded : (words : List ℕ) (n : ℕ) → length words ≤ 8 → length (words ++ number n line_feed) ≤ longest_line
worded words n few = omega (arith, length-append words (number n line_feed), number_short n line_feed)

line_short : (line : Line) → length (line_text line) ≤ longest_line
line_short (Line.Blocked cell) = worded blocked cell (omega arith)
line_short (Line.Plan steps expanded) =
    omega (
      arith,
      length-append (plan ++ number steps space) (number expanded line_feed),
      length-append plan (number steps space),
      number_short steps space,
      number_short expanded line_feed,
    )
line_short (Line.Move cell) = worded move cell (omega arith)
line_short (Line.Arrived moves) = worded arrived moves (omega arith)
line_short (Line.NoWay expanded) = worded no_way_text expanded (omega arith)

pub line_kept : (line : Line) {at : ℕ} {l : List ℕ} {next : ℕ} {l' : List ℕ} → Put at (line_text line) l next l' → at + longest_line ≤ length l
    → length l' ≡ length l
line_kept line p room = put_long p (omega (arith, line_short line))
