-- The text of a number is the library's.
use Rattle.std.proofs.Common.{ℕ, zero, suc, ◌≡◌, ◌+◌, ◌<◌, ◌≤◌, ◌/◌, ◌%◌, ◌^◌, [], ◌∷◌, ◌++◌, List, true, false}
use mathlib.Core.Path.{refl, sym, ap, ◌∙◌}
use native.Mathlib.Omega.{arith}
use borrow.Author.Tests.{lt-ltb, le-ltb}
use lib.Dec.{ltb}
use Rattle.std.specs.Fmt as std
use Rattle.std.proofs.lemmas.Fmt.{AppendsLastDigit, decimal_from_appends, length-decimal-le}
use Rattle.printing.specs.Text.{digits, decimal}

by_last : (k n : ℕ) → List ℕ
by_last zero n = []
by_last (suc k) n = digits k n

one : (k n : ℕ) → n < 10 → by_last (suc k) n ≡ (48 + n) ∷ []
unfolding digits by_last
one zero n few =
    let same : n % 10 ≡ n = omega arith in
    rw (digits, same) refl
one (suc k) n few =
    let e : ltb n 10 ≡ true = lt-ltb n 10 few in
    rw (digits, e) refl

more : (k n : ℕ) → 10 ≤ n → by_last (suc k) n ≡ by_last k (n / 10) ++ ((48 + n % 10) ∷ [])
unfolding digits by_last
more zero n many = refl
more (suc k) n many =
    let e : ltb n 10 ≡ false = le-ltb n 10 many in
    rw (digits, e) refl

laws : AppendsLastDigit by_last
laws = record { one = one; more = more }

decimal_same : (n : ℕ) → n < 2 ^ 64 → std.decimal n ≡ decimal n
unfolding digits by_last
decimal_same n small = sym (decimal_from_appends by_last laws 20 n small (length-decimal-le 20 n (omega arith) (omega (arith, small)) small))

-- of a number that is n
pub decimal_of : (m n : ℕ) → m < 2 ^ 64 → m ≡ n → std.decimal m ≡ decimal n
decimal_of m n small e = decimal_same m small ∙ ap (λ (k : ℕ). decimal k) e
