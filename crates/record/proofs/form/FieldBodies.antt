-- The bodies of the fields: what is written of what was read out of a part is the part's own bytes.
-- Assumes nothing.
use mathlib.Core.Path.{◌≡◌, sym, ap, ap₂, ◌∙◌}
use mathlib.Core.Bool.{true}
use mathlib.Core.List.{List, [], ◌∷◌, ◌++◌}
use Prim.Native.Nat.{ℕ, zero, suc, ◌+◌, ◌*◌, ◌/◌, ◌%◌, ◌≤◌, ◌<◌}
use native.Mathlib.Nat.{suc-mul, zero-mul, mul-one, mul_comm}
use native.Mathlib.Omega.{arith}
use lib.ListN.{length, get_or, take, drop, length-drop}
use lib.Seq.{length-take-le, drop-cons, drop-drop, take-add, get_or-take, get_or-drop, ext_get_or}
use Rattle.model.specs.Lists.{gathered}
use Rattle.model.specs.Record.{big, ground_size, ground_byte, learned_bytes, byte_of, big_of, bit_of}
use Rattle.record.specs.Form.{spare_clear}
use Rattle.record.proofs.form.ByteOfBits.{byte_back}

-- a list cut into pieces of k, one after the other
gathered_take : (k : ℕ) (piece : ℕ → List ℕ) (l : List ℕ) (n : ℕ) → ((i : ℕ) → i < n → take k (drop (i * k) l) ≡ piece i)
    → take (n * k) l ≡ gathered n piece
unfolding gathered
gathered_take k piece l zero f = rw (zero-mul k)
gathered_take k piece l (suc n) f =
    rw (suc-mul n k) (take-add (n * k) k l ∙ ap₂ ◌++◌ (gathered_take k piece l n (λ i m. f i (omega arith))) (f n (omega arith)))

split_big : (high low : ℕ) → low < 256 → big (high * 256 + low) ≡ high ∷ low ∷ []
split_big high low l =
    let a : (high * 256 + low) / 256 ≡ high = omega arith in
    let b : (high * 256 + low) % 256 ≡ low = omega arith in
    ap₂ (λ (x y : ℕ). x ∷ y ∷ []) a b

module _ (part : List ℕ) where
  -- one byte of a field, and two
  pub one_of : (k : ℕ) → 3 + k < length part → take 1 (drop k (drop 3 part)) ≡ byte_of part k ∷ []
  one_of k l = ap (take 1) (drop-drop k 3 part ∙ drop-cons part (3 + k) 0 l)

  module _ (small : (i : ℕ) → get_or part i 0 < 256) where
    pub two_of : (k : ℕ) → 4 + k < length part → take 2 (drop k (drop 3 part)) ≡ big (big_of part k)
    two_of k l =
        let e : suc (3 + k) ≡ 3 + (k + 1) = omega arith in
        ap (take 2)
        (drop-drop k 3 part ∙ drop-cons part (3 + k) 0 (omega arith)
        ∙ ap (λ (r : List ℕ). byte_of part k ∷ r) (drop-cons part (suc (3 + k)) 0 (omega arith)))
        ∙ ap (λ (i : ℕ). byte_of part k ∷ get_or part i 0 ∷ []) e
        ∙ sym (split_big (byte_of part k) (byte_of part (k + 1)) (small (3 + (k + 1))))

    -- the three fields of cells
    pub ground_body : (n : ℕ) (ground : List ℕ) → 3 + ground_size n ≤ length part → ((c : ℕ) → c < n → get_or ground c 0 ≡ bit_of part c)
        → spare_clear n part ≡ true
        → take (ground_size n) (drop 3 part) ≡ gathered (ground_size n) (ground_byte n ground)
    unfolding ground_byte
    ground_body n ground l bits s =
        let t = gathered_take 1 (ground_byte n ground) (drop 3 part) (ground_size n) (λ j m.
        rw (mul-one j) (one_of j (omega arith) ∙ ap (λ (x : ℕ). x ∷ []) (sym (byte_back n ground part bits (λ i. small (3 + i)) s j m)))) in
        rw (mul-one (ground_size n)) at t

    pub learned_body : (n : ℕ) (learned : List ℕ) → 3 + 2 * n ≤ length part → ((c : ℕ) → c < n → get_or learned c 0 ≡ big_of part (2 * c))
        → take (2 * n) (drop 3 part) ≡ gathered n (learned_bytes learned)
    unfolding learned_bytes
    learned_body n learned l e =
        rw (mul_comm 2 n) (gathered_take 2 (learned_bytes learned) (drop 3 part) n (λ c m.
        rw (mul_comm c 2) (two_of (2 * c) (omega arith) ∙ ap big (sym (e c m)))))

  pub link_body : (n : ℕ) (link : List ℕ) → n ≤ length link → 3 + n ≤ length part → ((c : ℕ) → c < n → get_or link c 0 ≡ byte_of part c)
      → take n (drop 3 part) ≡ take n link
  link_body n link r l e =
      let a = length-take-le n (drop 3 part) (omega (arith, length-drop 3 part)) in
      ext_get_or 0 (take n (drop 3 part)) (take n link) (a ∙ sym (length-take-le n link r))
      (λ i k. let m : i < n = rw a at k in get_or-take n (drop 3 part) i 0 m ∙ get_or-drop 3 part i 0 ∙ sym (get_or-take n link i 0 m ∙ e i m))
