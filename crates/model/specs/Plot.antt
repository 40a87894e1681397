-- The plot: its sides and cells, the four directions, and the one question whether a step is allowed.
use Rattle.std.specs.Prelude.{ℕ, ◌+◌, ◌-◌, ◌*◌, ◌/◌, ◌%◌, Bool, cond, ◌&&◌, ◌||◌, List, get_or, ltb, leb, eqb}

-- "No side may exceed 64, so N = W×H is at most 4,096"
abbrev pub max_side : ℕ
max_side = 64

abbrev pub max_cells : ℕ
max_cells = 4096

-- "a side is 0 or above 64"
abbrev pub bad_side : ℕ → Bool
bad_side side = eqb side 0 || ltb max_side side

unfoldable pub bad_sides : ℕ → ℕ → Bool
bad_sides w h = bad_side w || bad_side h

-- N
abbrev pub cells : ℕ → ℕ → ℕ
cells w h = w * h

-- "Cell number = row×W + column; row 0 is the top"
abbrev pub row : (w c : ℕ) → ℕ
row w c = c / w

abbrev pub column : (w c : ℕ) → ℕ
column w c = c % w

-- "Directions: 1 right (+1), 2 down (+W), 3 left (-1), 4 up (-W)": the cell one step from c in direction d.
-- "a step never leaves the plot or wraps from one row to the next": N where it would, and where d is no direction
unfoldable pub ahead : (w h c d : ℕ) → ℕ
ahead w h c d =
    cond (eqb d 1) (cond (ltb (column w c + 1) w) (c + 1) (cells w h))
    (cond (eqb d 2) (cond (ltb (c + w) (cells w h)) (c + w) (cells w h))
    (cond (eqb d 3) (cond (ltb 0 (column w c)) (c - 1) (cells w h))
    (cond (eqb d 4) (cond (leb w c) (c - w) (cells w h))
    (cells w h))))

abbrev pub opposite : ℕ → ℕ
opposite d = cond (leb d 2) (d + 2) (d - 2)

-- the cell from which direction d leads to c, or N
abbrev pub behind : (w h c d : ℕ) → ℕ
behind w h c d = ahead w h c (opposite d)

-- the test passes in each direction
abbrev pub in_each : (ℕ → Bool) → Bool
in_each test = test 1 && (test 2 && (test 3 && test 4))

-- "0 free, 1 known blocked". (A list has no entry outside the plot to ask: whoever asks knows that c is on it.)
abbrev pub free : (ground : List ℕ) (c : ℕ) → Bool
free ground c = eqb (get_or ground c 0) 0

-- A step is allowed from a free cell to a free cell of the plot. Whatever asks, asks here
unfoldable pub allowed : (w h : ℕ) (ground : List ℕ) (c d : ℕ) → Bool
allowed w h ground c d = free ground c && (ltb (ahead w h c d) (cells w h) && free ground (ahead w h c d))

-- how far two numbers are apart
abbrev pub gap : ℕ → ℕ → ℕ
gap a b = (a - b) + (b - a)

-- Manhattan distance
unfoldable pub distance : (w a b : ℕ) → ℕ
distance w a b = gap (row w a) (row w b) + gap (column w a) (column w b)
