-- Characters, numbers as text, and text in lent bytes.
use Rattle.std.specs.Prelude.{ℕ, zero, suc, ◌+◌, ◌/◌, ◌%◌, ◌≡◌, cond, List, [], ◌∷◌, ◌++◌, length, take, drop, ltb}

abbrev pub line_feed : ℕ
line_feed = 10

abbrev pub space : ℕ
space = 32

abbrev pub hash : ℕ
hash = 35

abbrev pub dot : ℕ
dot = 46

abbrev pub digit : ℕ → ℕ
digit d = 48 + d

-- "Numbers are decimal without leading zeros": of up to k + 1 digits
unfoldable pub digits : (k n : ℕ) → List ℕ
digits zero n = digit (n % 10) ∷ []
digits (suc k) n = cond (ltb n 10) (digit n ∷ []) (digits k (n / 10) ++ (digit (n % 10) ∷ []))

-- twenty are enough for 64 bits
abbrev pub decimal : ℕ → List ℕ
decimal n = digits 19 n

-- a number, and a character behind it
abbrev pub number : (n end : ℕ) → List ℕ
number n end = decimal n ++ (end ∷ [])

-- l with the text from a place on, and the place behind it
pub record Put (at : ℕ) (text l : List ℕ) (next : ℕ) (l' : List ℕ) : Type 0 where
  pub is : l' ≡ take at l ++ (text ++ drop (at + length text) l)
  pub behind : next ≡ at + length text
