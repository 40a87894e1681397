-- "`blocked` cell; `plan` length, expanded cells; `move` new cell; `arrived` number of moves. Where there is no way the plan line is
-- `no way E` with E the expanded cells, and the program ends."
use Rattle.std.specs.Prelude.{ℕ, Bool, true, false, List, [], ◌∷◌, ◌++◌}
use Rattle.printing.specs.Text.{line_feed, space, number}
use Rattle.printing.specs.declared.lines.Line.{Line}

-- "on the goal it ends", and "where there is no way"
abbrev pub is_last : Line → Bool
is_last (Line.Blocked cell) = false
is_last (Line.Plan length expanded) = false
is_last (Line.Move cell) = false
is_last (Line.Arrived moves) = true
is_last (Line.NoWay expanded) = true

-- the words, each with a space behind it
abbrev pub blocked : List ℕ
blocked = 98 ∷ 108 ∷ 111 ∷ 99 ∷ 107 ∷ 101 ∷ 100 ∷ 32 ∷ []

abbrev pub plan : List ℕ
plan = 112 ∷ 108 ∷ 97 ∷ 110 ∷ 32 ∷ []

abbrev pub move : List ℕ
move = 109 ∷ 111 ∷ 118 ∷ 101 ∷ 32 ∷ []

abbrev pub arrived : List ℕ
arrived = 97 ∷ 114 ∷ 114 ∷ 105 ∷ 118 ∷ 101 ∷ 100 ∷ 32 ∷ []

abbrev pub no_way_text : List ℕ
no_way_text = 110 ∷ 111 ∷ 32 ∷ 119 ∷ 97 ∷ 121 ∷ 32 ∷ []

-- no line has more bytes
abbrev pub longest_line : ℕ
longest_line = 50

abbrev pub line_text : Line → List ℕ
line_text (Line.Blocked cell) = blocked ++ number cell line_feed
line_text (Line.Plan length expanded) = plan ++ number length space ++ number expanded line_feed
line_text (Line.Move cell) = move ++ number cell line_feed
line_text (Line.Arrived moves) = arrived ++ number moves line_feed
line_text (Line.NoWay expanded) = no_way_text ++ number expanded line_feed
