-- The expanded cells as a list.
use Rattle.std.specs.Prelude.{ℕ, ◌<◌, ◌≡◌, List, get_or}

-- where x stands among the first `count` entries
pub record ListEntry (count : ℕ) (list : List ℕ) (x : ℕ) : Type 0 where
  pub index : ℕ
  pub low : index < count
  pub named : get_or list index 0 ≡ x

-- the first `count` entries are the cells below n that are marked 2, in any order and as often as may be
pub record Listed (n : ℕ) (mark : List ℕ) (count : ℕ) (list : List ℕ) : Type 0 where
  pub inside : (i : ℕ) → i < count → get_or list i 0 < n
  pub marked : (i : ℕ) → i < count → get_or mark (get_or list i 0) 0 ≡ 2
  pub each_one : (x : ℕ) → x < n → get_or mark x 0 ≡ 2 → ListEntry count list x
