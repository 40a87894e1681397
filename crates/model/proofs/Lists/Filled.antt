-- Laws of a test over all numbers below n, of counts, and of filled lists.
-- Assumes nothing.
use Rattle.std.proofs.lemmas.List.Edits.{fill_more}
use mathlib.Core.Path.{◌≡◌, refl, sym, ap, ◌∙◌}
use mathlib.Core.Logic.{◌≢◌}
use mathlib.Core.Bool.{Bool, true, false, cond}
use mathlib.Core.List.{List, ◌++◌}
use Prim.Native.Nat.{ℕ, zero, suc, ◌+◌, ◌≤◌, ◌<◌}
use native.Mathlib.Numerals.{add-one}
use native.Mathlib.Decide.{ℕ_discrete, dec_lt}
use native.Mathlib.Omega.{arith}
use lib.ListN.{length, get_or, set, take, drop, replicate, length-set}
use borrow.Rule.Slice.PartMut.{mid_of, put_mid}
use lib.Seq.{get_or-set_same, get_or-set_other, ext_get_or, length-take-le}
use Rattle.model.specs.Lists.{every, tally, filled, each}
use Rattle.model.proofs.Lists.Bools.{and_left, and_right, and_both}

-- one more number below n
pub below_suc : {n : ℕ} (P : ℕ → Type 0) → ((y : ℕ) → y < n → P y) → P n → (y : ℕ) → y < suc n → P y
below_suc {n} P f p y l = go (ℕ_discrete y n)
  where
    go : Dec (y ≡ n) → P y
    go (yes e) = rw e p
    go (no d) = f y (omega arith)

-- Every -----------------------------------------------------------------------------------------------------------------------

pub every_at : (n : ℕ) (test : ℕ → Bool) → every n test ≡ true → (k : ℕ) → k < n → test k ≡ true
unfolding every
every_at zero test e k l = absurd (omega arith)
every_at (suc n) test e k l =
    below_suc (λ k. test k ≡ true) (every_at n test (and_left (every n test) (test n) e)) (and_right (every n test) (test n) e) k l

pub all_every : (n : ℕ) (test : ℕ → Bool) → ((k : ℕ) → k < n → test k ≡ true) → every n test ≡ true
unfolding every
all_every zero test f = refl
all_every (suc n) test f =
    and_both (every n test) (test n) (all_every n test (λ k l. f k (omega arith))) (f n (omega arith))

-- Counts ----------------------------------------------------------------------------------------------------------------------

one_le : (b : Bool) → cond b 1 0 ≤ 1
one_le true = omega arith
one_le false = omega arith

one_true : (b : Bool) → 1 ≤ cond b 1 0 → b ≡ true
one_true true l = refl
one_true false l = absurd (omega arith)

one_mono : (a b : Bool) → (a ≡ true → b ≡ true) → cond a 1 0 ≤ cond b 1 0
one_mono true b f = rw (f refl) (omega arith)
one_mono false b f = omega arith

pub tally_le : (n : ℕ) (t : ℕ → Bool) → tally n t ≤ n
unfolding tally
tally_le zero t = omega arith
tally_le (suc n) t = omega (arith, tally_le n t, one_le (t n))

pub tally_none : (n : ℕ) (t : ℕ → Bool) → ((i : ℕ) → i < n → t i ≡ false) → tally n t ≡ 0
unfolding tally
tally_none zero t f = refl
tally_none (suc n) t f =
    let c : ◌≡◌ {A = ℕ} (cond (t n) 1 0) 0 = rw (f n (omega arith)) in
    omega (arith, tally_none n t (λ i l. f i (omega arith)))

pub tally_mono : (n : ℕ) (t u : ℕ → Bool) → ((i : ℕ) → i < n → t i ≡ true → u i ≡ true) → tally n t ≤ tally n u
unfolding tally
tally_mono zero t u f = omega arith
tally_mono (suc n) t u f =
    omega (arith, tally_mono n t u (λ i l. f i (omega arith)), one_mono (t n) (u n) (f n (omega arith)))

-- where the count is the whole, each passes
pub tally_all : (n : ℕ) (t : ℕ → Bool) → n ≤ tally n t → (i : ℕ) → i < n → t i ≡ true
unfolding tally
tally_all zero t l i k = absurd (omega arith)
tally_all (suc n) t l i k =
    below_suc (λ i. t i ≡ true) (tally_all n t (omega (arith, one_le (t n)))) (one_true (t n) (omega (arith, tally_le n t))) i k

pub tally_same : (n : ℕ) (t u : ℕ → Bool) → ((i : ℕ) → i < n → t i ≡ true → u i ≡ true) → ((i : ℕ) → i < n → u i ≡ true → t i ≡ true)
    → tally n t ≡ tally n u
tally_same n t u f g = omega (arith, tally_mono n t u f, tally_mono n u t g)

-- one more passes
pub tally_more : (n : ℕ) (t u : ℕ → Bool) (x : ℕ) → x < n → t x ≡ false → u x ≡ true → ((i : ℕ) → i < n → i ≢ x → t i ≡ true → u i ≡ true)
    → ((i : ℕ) → i < n → i ≢ x → u i ≡ true → t i ≡ true) → tally n u ≡ tally n t + 1
unfolding tally
tally_more zero t u x l a b f g = absurd (omega arith)
tally_more (suc n) t u x l a b f g = go (ℕ_discrete x n) (λ i. tally_more n t u x i a b (λ j k. f j (omega arith)) (λ j k. g j (omega arith)))
  where
    go : Dec (x ≡ n) → (x < n → tally n u ≡ tally n t + 1) → tally (suc n) u ≡ tally (suc n) t + 1
    go (yes e) _ =
        let c : ◌≡◌ {A = ℕ} (cond (t n) 1 0) 0 = rw (← e, a) in
        let d : ◌≡◌ {A = ℕ} (cond (u n) 1 0) 1 = rw (← e, b) in
        omega (arith, tally_same n t u (λ i k. f i (omega arith) (omega arith)) (λ i k. g i (omega arith) (omega arith)))
    go (no d) rest =
        omega (
          arith,
          rest (omega arith),
          one_mono (t n) (u n) (f n (omega arith) (omega arith)),
          one_mono (u n) (t n) (g n (omega arith) (omega arith)),
        )

-- Filled lists ----------------------------------------------------------------------------------------------------------------

-- a list of zeros, as a local array begins
pub zeros_at : (n i : ℕ) → ◌≡◌ {A = ℕ} (get_or (replicate n 0) i 0) 0
zeros_at zero i = refl
zeros_at (suc n) zero = refl
zeros_at (suc n) (suc i) = zeros_at n i

pub length_filled : (k : ℕ) (entry : ℕ → ℕ) (l : List ℕ) → length (filled k entry l) ≡ length l
unfolding filled
length_filled zero entry l = refl
length_filled (suc k) entry l = length-set (filled k entry l) k (entry k) ∙ length_filled k entry l

pub filled_above : (k : ℕ) (entry : ℕ → ℕ) (l : List ℕ) (j d : ℕ) → k ≤ j → get_or (filled k entry l) j d ≡ get_or l j d
unfolding filled
filled_above zero entry l j d h = refl
filled_above (suc k) entry l j d h =
    get_or-set_other (filled k entry l) k j (entry k) d (λ e. omega (arith, e, h)) ∙ filled_above k entry l j d (omega arith)

pub filled_at : (k : ℕ) (entry : ℕ → ℕ) (l : List ℕ) → k ≤ length l → (j : ℕ) → j < k → get_or (filled k entry l) j 0 ≡ entry j
unfolding filled
filled_at zero entry l r j h = absurd (omega arith)
filled_at (suc k) entry l r j h =
    below_suc (λ j. get_or (set (filled k entry l) k (entry k)) j 0 ≡ entry j)
    (λ j h. get_or-set_other (filled k entry l) k j (entry k) 0 (λ e. omega (arith, e, h)) ∙ filled_at k entry l (omega arith) j h)
    (get_or-set_same (filled k entry l) k (entry k) 0 (omega (arith, length_filled k entry l))) j h

-- two lists that agree from n on are filled alike
pub filled_alike : (n : ℕ) (entry : ℕ → ℕ) (l m : List ℕ) → length l ≡ length m → n ≤ length m → ((j : ℕ) → n ≤ j → get_or l j 0 ≡ get_or m j 0)
    → filled n entry l ≡ filled n entry m
filled_alike n entry l m e room same =
    ext_get_or 0 _ _ (length_filled n entry l ∙ e ∙ sym (length_filled n entry m)) (λ j _. at j (dec_lt j n))
  where
    at : (j : ℕ) → Dec (j < n) → get_or (filled n entry l) j 0 ≡ get_or (filled n entry m) j 0
    at j (yes i) = filled_at n entry l (omega (arith, e)) j i ∙ sym (filled_at n entry m room j i)
    at j (no o) =
        filled_above n entry l j 0 (omega arith) ∙ same j (omega arith) ∙ sym (filled_above n entry m j 0 (omega arith))

-- filled, with one entry below n changed or none, and filled again
pub filled_again : (n : ℕ) (entry : ℕ → ℕ) (l : List ℕ) → n ≤ length l → filled n entry (filled n entry l) ≡ filled n entry l
filled_again n entry l room = filled_alike n entry _ l (length_filled n entry l) room (λ j b. filled_above n entry l j 0 b)

pub filled_over : (n : ℕ) (entry : ℕ → ℕ) (l : List ℕ) (c v : ℕ) → n ≤ length l → c < n → filled n entry (set (filled n entry l) c v) ≡ filled n entry l
filled_over n entry l c v room i =
    filled_alike n entry _ l (length-set (filled n entry l) c v ∙ length_filled n entry l) room
    (λ j b. get_or-set_other (filled n entry l) c j v 0 (omega arith) ∙ filled_above n entry l j 0 b)

-- std's fill of the first n entries
filled_each : (n v : ℕ) (l : List ℕ) → n ≤ length l → replicate n v ++ drop n l ≡ filled n (each v) l
unfolding filled
filled_each zero v l i = refl
filled_each (suc n) v l i =
    sym (rw (add-one n) at (fill_more n v l (omega arith))) ∙ ap (λ (m : List ℕ). set m n v) (filled_each n v l (omega arith))

pub part_length : (n : ℕ) (l : List ℕ) → n ≤ length l → n ≡ length (take n l)
part_length n l i = sym (length-take-le n l i)

pub part_filled : (n v : ℕ) (l : List ℕ) {s : List ℕ} → n ≤ length l → (((y : ℕ) → y ≡ v → y ≡ v) → s ≡ replicate (length (take n l)) v)
    → s ++ drop n l ≡ filled n (each v) l
part_filled n v l i e = ap (λ (m : List ℕ). m ++ drop n l) (rw (length-take-le n l i) at e (λ y k. k)) ∙ filled_each n v l i

-- the same of its first m entries, where m is n
pub filled_to : (n v m : ℕ) (l : List ℕ) {s : List ℕ} → m ≡ n → n ≤ length l → (((y : ℕ) → y ≡ v → y ≡ v) → s ≡ replicate (length (take m l)) v)
    → s ++ drop m l ≡ filled n (each v) l
filled_to n v m l {s} e i f = rw (sym e) (part_filled m v l (omega (arith, e, i)) f)

-- and its k entries from a on, where these are the first n
pub filled_mid : (n v a k : ℕ) (l : List ℕ) {s : List ℕ} → a ≡ 0 → k ≡ n → n ≤ length l
    → (((y : ℕ) → y ≡ v → y ≡ v) → s ≡ replicate (length (mid_of a k l)) v) → put_mid a k l s ≡ filled n (each v) l
filled_mid n v a k l {s} z e i f = go a z k e f
  where
    go : (a : ℕ) → a ≡ 0 → (k : ℕ) → k ≡ n → (((y : ℕ) → y ≡ v → y ≡ v) → s ≡ replicate (length (mid_of a k l)) v)
        → put_mid a k l s ≡ filled n (each v) l
    go zero z k e f = filled_to n v k l e i f
    go (suc a) z k e f = absurd (omega (arith, z))
