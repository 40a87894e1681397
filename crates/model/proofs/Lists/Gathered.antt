-- Laws of parts gathered one after the other.
-- Assumes nothing.
use mathlib.Core.Path.{◌≡◌, refl, sym, ◌∙◌}
use mathlib.Core.List.{List, ◌++◌, append_assoc}
use Prim.Native.Nat.{ℕ, zero, suc, ◌+◌, ◌*◌, ◌<◌}
use native.Mathlib.Nat.{suc-mul, zero-mul}
use native.Mathlib.Omega.{arith}
use lib.ListN.{length, get_or, length-append, get_or-append}
use lib.Seq.{get_or-append-add}
use Rattle.model.specs.Lists.{gathered}
use Rattle.model.proofs.Lists.Filled.{below_suc}

pub gathered_same : (n : ℕ) (f g : ℕ → List ℕ) → ((i : ℕ) → i < n → f i ≡ g i) → gathered n f ≡ gathered n g
unfolding gathered
gathered_same zero f g e = refl
gathered_same (suc n) f g e = rw (gathered_same n f g (λ i l. e i (omega arith)), e n (omega arith))

-- parts of one length k
module _ (k : ℕ) (part : ℕ → List ℕ) (e : (i : ℕ) → length (part i) ≡ k) where
  pub length_gathered : (n : ℕ) → length (gathered n part) ≡ n * k
  unfolding gathered
  length_gathered zero = sym (zero-mul k)
  length_gathered (suc n) = rw length-append (omega (arith, length_gathered n, e n, suc-mul n k))

  -- entry j of part i, whatever comes after the parts
  pub get_d_gathered : (n j : ℕ) → j < k → (rest : List ℕ) (i : ℕ) → i < n → get_or (gathered n part ++ rest) (i * k + j) 0 ≡ get_or (part i) j 0
  unfolding gathered
  get_d_gathered zero j m rest i l = absurd (omega arith)
  get_d_gathered (suc n) j m rest i l =
      rw append_assoc
      (below_suc (λ i. get_or (gathered n part ++ (part n ++ rest)) (i * k + j) 0 ≡ get_or (part i) j 0) (get_d_gathered n j m (part n ++ rest))
      (rw (length_gathered n) at (get_or-append-add (gathered n part) (part n ++ rest) j 0) ∙ get_or-append (part n) rest 0 j (omega (arith, e n))) i
      l)
