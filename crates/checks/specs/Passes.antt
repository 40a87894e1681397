-- What a pass asks of the test that it is given, and what it knows of it.
use Rattle.std.specs.Prelude.{ℕ, Bool, ◌<◌, ◌≡◌}

-- the test may be asked of each number below n
abbrev pub AnswersBelow : ℕ → (ℕ → Type 0) → Type 0
AnswersBelow n pre = (i : ℕ) → i < n → pre i

-- each answer below n is that of t
abbrev pub AgreesBelow : ℕ → (ℕ → Bool → Type 0) → (ℕ → Bool) → Type 0
AgreesBelow n post t = (i : ℕ) → i < n → (b : Bool) → post i b → b ≡ t i
