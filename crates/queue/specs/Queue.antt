-- The queue of waiting cells: a binary heap of keys in entries 1 .. len of a list, with the place of each cell. Entry 0
-- holds 0. Which keys are held is said by a function f from cells to keys, `none` where a cell does not wait.
use Rattle.std.specs.Prelude.{ℕ, ◌+◌, ◌-◌, ◌*◌, ◌/◌, ◌%◌, ◌≤◌, ◌<◌, ◌≡◌, ◌⊎◌, List, get_or, length}

-- the length of a heap for n cells: an entry before the keys, and room for two behind them
abbrev pub heap_room : ℕ → ℕ
heap_room n = n + 3

abbrev pub none : ℕ
none = 0xffff_ffff_ffff_ffff

-- The key of a waiting cell: the lesser key is the cell to take first. The cell is its lowest 16 bits
abbrev pub key_of : (cost learned cell : ℕ) → ℕ
key_of cost learned cell = (cost + learned) * 4294967296 + ((65535 - cost) * 65536 + cell)

-- the cell of entry j
abbrev pub cell : List ℕ → ℕ → ℕ
cell h j = get_or h j 0 % 65536

abbrev pub Lesser : ℕ → ℕ → ℕ → ℕ → Type 0
Lesser a b k r = ((r ≡ k) × (a ≤ b)) ⊎ ((r ≡ k + 1) × (b < a))

-- entry j is the key of a cell below n, and the cell's place is j
pub record Entry (n : ℕ) (h q : List ℕ) (j : ℕ) : Type 0 where
  pub inside : cell h j < n
  pub spot : get_or q (cell h j) 0 ≡ j
  pub under : get_or h j 0 < none

-- room for n cells: an entry before the keys and two behind them, and a place for each cell
pub record QueueRoom (n : ℕ) (h q : List ℕ) : Type 0 where
  pub heaps : heap_room n ≤ length h
  pub places : n ≤ length q

pub record IsQueue (n len : ℕ) (h q : List ℕ) : Type 0 where
  pub room : QueueRoom n h q
  pub small : n ≤ 65534
  pub base : get_or h 0 0 ≡ 0
  pub entry : (j : ℕ) → 1 ≤ j → j ≤ len → Entry n h q j
  pub order : (j : ℕ) → 1 ≤ j → j ≤ len → get_or h (j / 2) 0 ≤ get_or h j 0

-- cell x waits with key f x, and stands at its place
pub record Back (f : ℕ → ℕ) (len : ℕ) (h q : List ℕ) (x : ℕ) : Type 0 where
  pub low : 1 ≤ get_or q x 0
  pub high : get_or q x 0 ≤ len
  pub at : get_or h (get_or q x 0) 0 ≡ f x
  pub named : f x % 65536 ≡ x

-- the queue holds the keys of f and no others
pub record Keys (f : ℕ → ℕ) (n len : ℕ) (h q : List ℕ) : Type 0 where
  pub is : (j : ℕ) → 1 ≤ j → j ≤ len → f (cell h j) ≡ get_or h j 0
  pub back : (x : ℕ) → x < n → f x < none → Back f len h q x

-- the same where entry i is free and the key v is in hand
pub record Gap (n len : ℕ) (h q : List ℕ) (i v : ℕ) : Type 0 where
  pub room : QueueRoom n h q
  pub small : n ≤ 65534
  pub base : get_or h 0 0 ≡ 0
  pub fits : len ≤ n + 1
  pub low : 1 ≤ i
  pub high : i ≤ len
  pub inside : v % 65536 < n
  pub under : v < none
  pub entry : (j : ℕ) → 1 ≤ j → j ≤ len → (j ≡ i → ⊥) → Entry n h q j
  pub away : (j : ℕ) → 1 ≤ j → j ≤ len → (j ≡ i → ⊥) → cell h j ≡ v % 65536 → ⊥
  pub order : (j : ℕ) → 1 ≤ j → j ≤ len → (j ≡ i → ⊥) → (j / 2 ≡ i → ⊥) → get_or h (j / 2) 0 ≤ get_or h j 0
  pub bridge : (j : ℕ) → 1 ≤ j → j ≤ len → j / 2 ≡ i → get_or h (i / 2) 0 ≤ get_or h j 0

pub record GapKeys (f : ℕ → ℕ) (n len : ℕ) (h q : List ℕ) (i v : ℕ) : Type 0 where
  pub own : f (v % 65536) ≡ v
  pub is : (j : ℕ) → 1 ≤ j → j ≤ len → (j ≡ i → ⊥) → f (cell h j) ≡ get_or h j 0
  pub back : (x : ℕ) → x < n → f x < none → (x ≡ v % 65536 → ⊥) → Back f len h q x
  pub off : (x : ℕ) → x < n → f x < none → (x ≡ v % 65536 → ⊥) → get_or q x 0 ≡ i → ⊥

-- v may be put at i or above
pub record Rising (n len : ℕ) (h q : List ℕ) (i v : ℕ) : Type 0 where
  pub gap : Gap n len h q i v
  pub over : (j : ℕ) → 1 ≤ j → j ≤ len → j / 2 ≡ i → v ≤ get_or h j 0

pub record Risen (n len : ℕ) (h q : List ℕ) (i v : ℕ) (h' q' : List ℕ) : Type 0 where
  pub queue : IsQueue n len h' q'
  pub keys : (f : ℕ → ℕ) → GapKeys f n len h q i v → Keys f n len h' q'

pub record Sunk (n len : ℕ) (h q : List ℕ) (v r : ℕ) (h' q' : List ℕ) : Type 0 where
  pub rising : Rising n len h' q' r v
  pub keys : (f : ℕ → ℕ) → GapKeys f n len h q 1 v → GapKeys f n len h' q' r v

pub record Absent (n len : ℕ) (h q : List ℕ) (v : ℕ) : Type 0 where
  pub queue : IsQueue n len h q
  pub inside : v % 65536 < n
  pub under : v < none
  pub absent : (j : ℕ) → 1 ≤ j → j ≤ len → cell h j ≡ v % 65536 → ⊥

pub record Waits (n len : ℕ) (h q : List ℕ) (v : ℕ) : Type 0 where
  pub queue : IsQueue n len h q
  pub inside : v % 65536 < n
  pub under : v < none
  pub low : 1 ≤ get_or q (v % 65536) 0
  pub high : get_or q (v % 65536) 0 ≤ len
  pub named : cell h (get_or q (v % 65536) 0) ≡ v % 65536
  pub less : v ≤ get_or h (get_or q (v % 65536) 0) 0

-- the cell of v has the key v, and no other cell's key changed
pub record Lowered (n len : ℕ) (h q : List ℕ) (v len' : ℕ) (h' q' : List ℕ) : Type 0 where
  pub queue : IsQueue n len' h' q'
  pub keys : (f f' : ℕ → ℕ) → Keys f n len h q → f' (v % 65536) ≡ v → ((x : ℕ) → (x ≡ v % 65536 → ⊥) → f' x ≡ f x) → Keys f' n len' h' q'

-- the cell of entry 1 no longer waits, and no other cell's key changed
pub record Popped (n len : ℕ) (h q h' q' : List ℕ) : Type 0 where
  pub queue : IsQueue n (len - 1) h' q'
  pub keys : (f f' : ℕ → ℕ) → Keys f n len h q → f' (cell h 1) ≡ none → ((x : ℕ) → (x ≡ cell h 1 → ⊥) → f' x ≡ f x) → Keys f' n (len - 1) h' q'
