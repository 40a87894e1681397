-- What a loop over the numbers below n says, counts, fills and gathers: each has one clause for one number more.
use Rattle.std.specs.Prelude.{ℕ, zero, suc, ◌+◌, Bool, true, cond, ◌&&◌, List, [], ◌++◌, set}

-- the test passes at each number below n
unfoldable pub every : ℕ → (ℕ → Bool) → Bool
every zero test = true
every (suc k) test = every k test && test k

-- how many numbers below n pass the test
unfoldable pub tally : ℕ → (ℕ → Bool) → ℕ
tally zero test = 0
tally (suc k) test = tally k test + cond (test k) 1 0

-- l with `entry k` at each place k below n; the entries from n on stay
unfoldable pub filled : ℕ → (ℕ → ℕ) → List ℕ → List ℕ
filled zero entry l = l
filled (suc k) entry l = set (filled k entry l) k (entry k)

-- the same value at each place
abbrev pub each : ℕ → ℕ → ℕ
each v k = v

-- `part 0`, `part 1`, .. up to `part (n - 1)`, one after the other
unfoldable pub gathered : ℕ → (ℕ → List ℕ) → List ℕ
gathered zero part = []
gathered (suc k) part = gathered k part ++ part k
