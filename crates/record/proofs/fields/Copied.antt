-- Bytes that are copied into a list, as the stores that definitions speak of.
-- Assumes nothing.
use Prim.Native.Nat.{ℕ, suc, ◌+◌, ◌-◌, ◌*◌, ◌/◌, ◌%◌, ◌≤◌, ◌<◌}
use mathlib.Core.Path.{◌≡◌, sym, ◌∙◌}
use mathlib.Core.Bool.{◌&&◌}
use mathlib.Core.List.{List, ◌++◌, append_assoc}
use native.Mathlib.Omega.{arith}
use borrow.Author.Tests.{eqb-true, eq-eqb}
use lib.Dec.{eqb}
use lib.ListN.{length, take, drop}
use lib.Seq.{sets-eq, drop-drop}
use Rattle.std.specs.Int.{to_le_bytes, w32}
use Rattle.model.proofs.Lists.Bools.{and_left, and_right, and_both}
use Rattle.model.proofs.Lists.Scans.{same_test}
use Rattle.record.specs.Cells.{four_put}

-- two bytes that make a number, the high one first
pub bytes_test : (high low size : ℕ) → high < 256 → low < 256 → eqb (high * 256 + low) size ≡ (eqb high (size / 256) && eqb low (size % 256))
bytes_test high low size a b =
    same_test (eqb (high * 256 + low) size) (eqb high (size / 256) && eqb low (size % 256))
    (λ e. let t : high * 256 + low ≡ size = eqb-true _ _ e in
    and_both _ _ (eq-eqb high (size / 256) (omega (arith, t))) (eq-eqb low (size % 256) (omega (arith, t))))
    (λ e. eq-eqb _ _ (omega (
      arith,
      eqb-true _ _ (and_left (eqb high (size / 256)) (eqb low (size % 256)) e),
      eqb-true _ _ (and_right (eqb high (size / 256)) (eqb low (size % 256)) e),
    )))

-- four bytes over four entries
pub four_copied : {bytes : List ℕ} (x c : ℕ) (l : List ℕ) → bytes ≡ to_le_bytes w32 x → c + 4 ≤ length l
    → take c l ++ (bytes ++ drop (c + 4 - c) (drop c l)) ≡ four_put x c l
unfolding four_put
four_copied x c l e r =
    let one : c + 1 ≡ suc c = omega arith in
    let two : c + 2 ≡ suc (suc c) = omega arith in
    let three : c + 3 ≡ suc (suc (suc c)) = omega arith in
    let k : c + 4 - c ≡ 4 = omega arith in
    rw (one, two, three, k, e, drop-drop 4 c l)
    (sym (append_assoc (take c l) (to_le_bytes w32 x) (drop (c + 4) l)) ∙ sym (sets-eq (to_le_bytes w32 x) l c r))
