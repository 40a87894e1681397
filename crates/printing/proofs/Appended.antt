-- Text behind text: what is written in two steps is written in one.
-- Assumes nothing.
use Prim.Native.Nat.{ℕ, zero, suc, ◌+◌, ◌/◌, ◌%◌, ◌≤◌, ◌<◌}
use mathlib.Core.Path.{◌≡◌, sym, ap, ap₂, ◌∙◌}
use mathlib.Core.Bool.{cond, Bool, true, false}
use mathlib.Core.List.{List, [], ◌∷◌, ◌++◌, append_assoc}
use native.Mathlib.Nat.{add-zero}
use native.Mathlib.Omega.{arith}
use lib.Dec.{ltb}
use lib.ListN.{length, take, drop, length-append, length-drop, take-append-drop}
use lib.Seq.{take-append_seam, take_at, drop-append-add, drop-drop, length-take-le}
use Rattle.printing.specs.Text.{digit, digits, decimal, number, Put}

pub put_nothing : (at : ℕ) (l : List ℕ) → Put at [] l at l
put_nothing at l = record { is = sym (ap (λ (k : ℕ). take at l ++ drop k l) (add-zero at) ∙ take-append-drop at l); behind = sym (add-zero at) }

pub put_long : {at : ℕ} {text l : List ℕ} {next : ℕ} {l' : List ℕ} → Put at text l next l' → at + length text ≤ length l → length l' ≡ length l
put_long {at} {text} {l} p room =
    ap length p.is
    ∙ length-append (take at l) (text ++ drop (at + length text) l)
    ∙ omega (arith, length-append text (drop (at + length text) l), length-take-le at l (omega arith), length-drop (at + length text) l)

pub put_then : {at : ℕ} {s t l : List ℕ} {m next : ℕ} {l₁ l₂ : List ℕ} → Put at s l m l₁ → Put m t l₁ next l₂ → at + length s ≤ length l
    → Put at (s ++ t) l next l₂
put_then {at} {s} {t} {l} {m} {next} {l₁} {l₂} p q room =
    let front = take at l ++ s in
    let rest = drop (at + length s) l in
    let n : length front ≡ m = length-append (take at l) s ∙ omega (arith, length-take-le at l (omega arith), p.behind) in
    let sum : at + length s + length t ≡ at + length (s ++ t) = omega (arith, length-append s t) in
    let is : l₁ ≡ front ++ rest = p.is ∙ sym (append_assoc (take at l) s rest) in
    let begins : take m l₁ ≡ front = ap (take m) is ∙ take_at front rest m n in
    let goes_on : drop (m + length t) l₁ ≡ drop (at + length (s ++ t)) l =
    ap (drop (m + length t)) is
    ∙ ap (λ (k : ℕ). drop (k + length t) (front ++ rest)) (sym n)
    ∙ drop-append-add front rest (length t)
    ∙ drop-drop (length t) (at + length s) l
    ∙ ap (λ (k : ℕ). drop k l) sum in
    record {
      is =
          q.is ∙ ap₂ (λ (a b : List ℕ). a ++ (t ++ b)) begins goes_on
          ∙ append_assoc (take at l) s _
          ∙ ap (λ (x : List ℕ). take at l ++ x) (sym (append_assoc s t _));
      behind = q.behind ∙ omega (arith, p.behind, length-append s t);
    }

-- the same text under another name
pub put_as : {at : ℕ} {s t l : List ℕ} {next : ℕ} {l' : List ℕ} → Put at s l next l' → s ≡ t → Put at t l next l'
put_as p e = rw e at p

-- Numbers -----------------------------------------------------------------------------------------------------------------------------

pub digits_long : (k n : ℕ) → length (digits k n) ≤ k + 1
unfolding digits
digits_long zero n = omega arith
digits_long (suc k) n = go (ltb n 10) (digits_long k (n / 10))
  where
    go : (b : Bool) → length (digits k (n / 10)) ≤ k + 1 → length (cond b (digit n ∷ []) (digits k (n / 10) ++ (digit (n % 10) ∷ []))) ≤ suc k + 1
    go true most = omega arith
    go false most = omega (arith, length-append (digits k (n / 10)) (digit (n % 10) ∷ []), most)

-- A number, and a character behind it ---------------------------------------------------------------------------------------------------

module _ {at : ℕ} (n : ℕ) {l : List ℕ} {m : ℕ} {l₁ : List ℕ} (p : Put at (decimal n) l m l₁) (room : at + 20 < length l) where
  pub number_room : m < length l₁
  number_room = omega (arith, p.behind, digits_long 19 n, put_long p (omega (arith, digits_long 19 n)))

  pub number_done : (end : ℕ) {next : ℕ} {l₂ : List ℕ} → Put m (end ∷ []) l₁ next l₂ → Put at (number n end) l next l₂
  number_done end q = put_then p q (omega (arith, digits_long 19 n))

pub number_few : (n end : ℕ) {at : ℕ} {l : List ℕ} {next : ℕ} {l' : List ℕ} → Put at (number n end) l next l' → next ≤ at + 21
number_few n end p = omega (arith, p.behind, length-append (decimal n) (end ∷ []), digits_long 19 n)

pub number_kept : (n end : ℕ) {at : ℕ} {l : List ℕ} {next : ℕ} {l' : List ℕ} → Put at (number n end) l next l' → at + 20 < length l
    → length l' ≡ length l
number_kept n end p room = put_long p (omega (arith, length-append (decimal n) (end ∷ []), digits_long 19 n))

-- written from the front on: the text is what stands in front
pub put_front : {text l : List ℕ} {m : ℕ} {l' : List ℕ} → Put 0 text l m l' → take m l' ≡ text
put_front {text} {l} p =
    let n : 0 + length text ≡ length text = omega arith in
    ap₂ take (p.behind ∙ n) p.is ∙ take-append_seam text (drop (0 + length text) l)
