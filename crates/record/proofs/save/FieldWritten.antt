-- A field that is being written: its front stands, and behind that more and more of its bytes.
-- Assumes nothing.
use Prim.Native.Nat.{ℕ, suc, ◌+◌, ◌-◌, ◌*◌, ◌/◌, ◌%◌, ◌≤◌, ◌<◌}
use mathlib.Core.Path.{◌≡◌, refl, sym, ap, ◌∙◌}
use mathlib.Core.List.{List, [], ◌∷◌, ◌++◌, append_assoc, append-nil}
use native.Mathlib.Numerals.{add-one}
use native.Mathlib.Omega.{arith}
use lib.ListN.{length, get_or, set, take, drop, length-set, length-append, take-append-drop}
use lib.Seq.{length-take-le, take-suc, append_snoc, drop-drop, sets-eq}
use Rattle.std.specs.Int.{to_be_bytes, w16}
use Rattle.model.specs.Lists.{gathered}
use Rattle.model.specs.Lent.{fronted}
use Rattle.model.specs.Record.{big, field, ground_size, low_bits, ground_byte, learned_bytes}
use Rattle.model.proofs.Lists.Gathered.{length_gathered}
use Rattle.record.specs.Written.{pair_put}
use Rattle.record.proofs.save.GrowingFront.{front_store}

-- two bytes over two entries
pub two_copied : {bytes : List ℕ} (x c : ℕ) (l : List ℕ) → x < 65536 → bytes ≡ to_be_bytes w16 x → c + 2 ≤ length l
    → take c l ++ (bytes ++ drop (c + 2 - c) (drop c l)) ≡ pair_put x c l
unfolding pair_put
two_copied x c l small e r =
    let one : c + 1 ≡ suc c = omega arith in
    let k : c + 2 - c ≡ 2 = omega arith in
    let high : x / 256 % 256 ≡ x / 256 = omega arith in
    rw (one, k, e, drop-drop 2 c l)
    (sym (append_assoc (take c l) (to_be_bytes w16 x) (drop (c + 2) l)) ∙ sym (sets-eq (to_be_bytes w16 x) l c r)
    ∙ ap (λ (v : ℕ). set (set l c v) (suc c) (x % 256)) high)

-- l is l₀, which begins with the front of a field, with these bytes behind that front
pub record Putting (bytes l₀ l : List ℕ) : Type 0 where
  pub is : l ≡ fronted (take 3 l₀ ++ bytes) l₀
  pub long : length l ≡ length l₀
  pub room : 3 ≤ length l₀

pub put_begin : (l₀ : List ℕ) → 3 ≤ length l₀ → Putting [] l₀ l₀
put_begin l₀ room =
    let n : length (take 3 l₀) ≡ 3 = length-take-le 3 l₀ room in
    record {
      is = sym (ap (λ (s : List ℕ). fronted s l₀) (append-nil (take 3 l₀)) ∙ ap (λ (k : ℕ). take 3 l₀ ++ drop k l₀) n ∙ take-append-drop 3 l₀);
      long = refl;
      room = room;
    }

pub gather_begin : (part : ℕ → List ℕ) (l₀ : List ℕ) → 3 ≤ length l₀ → Putting (gathered 0 part) l₀ l₀
unfolding gathered
gather_begin part l₀ room = put_begin l₀ room

module _ {l₀ : List ℕ} where
  -- v is stored behind the bytes
  pub put_more : {bytes l : List ℕ} (place v : ℕ) → Putting bytes l₀ l → place ≡ 3 + length bytes → place < length l₀
      → Putting (bytes ++ (v ∷ [])) l₀ (set l place v)
  put_more {bytes} {l} place v p e room =
      let n : length (take 3 l₀ ++ bytes) ≡ place = omega (arith, e, length-append (take 3 l₀) bytes, length-take-le 3 l₀ p.room) in
      record {
        is =
            ap (λ (s : List ℕ). set s place v) p.is ∙ front_store (take 3 l₀ ++ bytes) l₀ place n v room
            ∙ ap (λ (s : List ℕ). fronted s l₀) (append_assoc (take 3 l₀) bytes (v ∷ []));
        long = length-set l place v ∙ p.long;
        room = p.room;
      }

  -- the same, where the bytes then have another name
  pub put_next : {bytes next l : List ℕ} (place v : ℕ) → Putting bytes l₀ l → place ≡ 3 + length bytes → place < length l₀ → bytes ++ (v ∷ []) ≡ next
      → Putting next l₀ (set l place v)
  put_next place v p e room q = rw q at (put_more place v p e room)

-- the field stands, where l₀ is part with its front
pub put_end : (tag size : ℕ) (part : List ℕ) {bytes l₀ l : List ℕ} → Putting bytes l₀ l → l₀ ≡ fronted (tag ∷ big size) part → length bytes ≡ size
    → l ≡ fronted (field tag bytes) part
put_end tag size part {bytes} p e n =
    let k : 3 + length bytes ≡ length (field tag bytes) = omega arith in
    p.is ∙ ap (λ (s : List ℕ). fronted (take 3 s ++ bytes) s) e
    ∙ ap (λ (s : List ℕ). (tag ∷ big size) ++ (bytes ++ s)) (drop-drop (length bytes) 3 part ∙ ap (λ (i : ℕ). drop i part) k)
    ∙ ap (λ (i : ℕ). fronted ((tag ∷ big i) ++ bytes) part) (sym n)

-- Bytes as they come -------------------------------------------------------------------------------------------------------------

-- the next of these bytes
pub link_next : (bytes : List ℕ) (i : ℕ) {l₀ l : List ℕ} (place : ℕ) {v : ℕ} → Putting (take i bytes) l₀ l → v ≡ get_or bytes i 0 → i < length bytes
    → place ≡ 3 + i → place < length l₀
    → Putting (take (i + 1) bytes) l₀ (set l place v)
link_next bytes i place {v} p e some q room =
    put_next place v p (omega (arith, q, length-take-le i bytes (omega arith))) room
    (ap (λ (b : ℕ). take i bytes ++ (b ∷ [])) e ∙ sym (take-suc bytes i 0 some) ∙ ap (λ (k : ℕ). take k bytes) (sym (add-one i)))

-- Learned values ------------------------------------------------------------------------------------------------------------------

pub learned_long : (learned : List ℕ) (n : ℕ) → length (gathered n (learned_bytes learned)) ≡ 2 * n
unfolding learned_bytes
learned_long learned n = length_gathered 2 (learned_bytes learned) (λ i. refl) n ∙ omega arith

learned_bytes_law : (learned : List ℕ) (i v : ℕ) → v ≡ get_or learned i 0 → gathered i (learned_bytes learned) ++ (v / 256 ∷ []) ++ (v % 256 ∷ [])
    ≡ gathered (i + 1) (learned_bytes learned)
unfolding gathered learned_bytes
learned_bytes_law learned i v e = append_snoc (gathered i (learned_bytes learned)) (v / 256) (v % 256 ∷ []) ∙ rw (add-one i, e)

module _ {l₀ : List ℕ} (learned : List ℕ) where
  pub learned_next : (i : ℕ) {l l' : List ℕ} (place : ℕ) {v : ℕ} → Putting (gathered i (learned_bytes learned)) l₀ l → v ≡ get_or learned i 0
      → l' ≡ pair_put v place l → place ≡ 3 + 2 * i → place + 1 < length l₀
      → Putting (gathered (i + 1) (learned_bytes learned)) l₀ l'
  unfolding pair_put
  learned_next i place {v} p e w q room =
      let n = learned_long learned i in
      let high = put_more place (v / 256) p (omega (arith, n, q)) (omega arith) in
      rw w
      (put_next (place + 1) (v % 256) high (omega (arith, n, q, length-append (gathered i (learned_bytes learned)) (v / 256 ∷ []))) room
      (learned_bytes_law learned i v e))

  pub learned_end : (tag n : ℕ) (part : List ℕ) (i : ℕ) {l : List ℕ} → Putting (gathered i (learned_bytes learned)) l₀ l → i ≡ n
      → l₀ ≡ fronted (tag ∷ big (2 * n)) part
      → l ≡ fronted (field tag (gathered n (learned_bytes learned))) part
  learned_end tag n part i {l} p e q =
      let t : Putting (gathered n (learned_bytes learned)) l₀ l = rw e at p in put_end tag (2 * n) part t q (learned_long learned n)

-- Ground --------------------------------------------------------------------------------------------------------------------------

pub ground_long : (n : ℕ) (ground : List ℕ) (k : ℕ) → length (gathered k (ground_byte n ground)) ≡ k
unfolding ground_byte
ground_long n ground k = length_gathered 1 (ground_byte n ground) (λ i. refl) k ∙ omega arith

ground_bytes : (n : ℕ) (ground : List ℕ) (j v : ℕ) → v ≡ low_bits n ground j 8 → gathered j (ground_byte n ground) ++ (v ∷ [])
    ≡ gathered (j + 1) (ground_byte n ground)
unfolding gathered ground_byte
ground_bytes n ground j v e = rw (add-one j, e)

module _ {l₀ : List ℕ} (n : ℕ) (ground : List ℕ) where
  pub ground_next : (j v : ℕ) {l : List ℕ} → Putting (gathered j (ground_byte n ground)) l₀ l → v ≡ low_bits n ground j 8 → 3 + j < length l₀
      → Putting (gathered (j + 1) (ground_byte n ground)) l₀ (set l (3 + j) v)
  ground_next j v p e room = put_next (3 + j) v p (omega (arith, ground_long n ground j)) room (ground_bytes n ground j v e)

  pub ground_end : (tag size : ℕ) (part : List ℕ) (j : ℕ) {l : List ℕ} → size ≡ ground_size n → Putting (gathered j (ground_byte n ground)) l₀ l
      → j ≡ size → l₀ ≡ fronted (tag ∷ big size) part
      → l ≡ fronted (field tag (gathered (ground_size n) (ground_byte n ground))) part
  ground_end tag size part j {l} i p e q =
      let t : Putting (gathered size (ground_byte n ground)) l₀ l = rw e at p in
      put_end tag size part t q (ground_long n ground size) ∙ ap (λ (k : ℕ). fronted (field tag (gathered k (ground_byte n ground))) part) i
