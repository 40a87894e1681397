-- The list of the expanded cells grows by one with each of them.
-- Assumes nothing.
use mathlib.Core.Path.{◌≡◌, sym, ◌∙◌}
use mathlib.Core.List.{List}
use Prim.Native.Nat.{ℕ, ◌+◌, ◌<◌}
use native.Mathlib.Decide.{ℕ_discrete}
use native.Mathlib.Omega.{arith}
use lib.ListN.{length, get_or, set}
use lib.Seq.{get_or-set_same, get_or-set_other}
use Rattle.walks.proofs.Expansion.{OneMore}
use Rattle.model.proofs.Grid.Views.{mark_in, mark_on}
use Rattle.search.specs.Listed.{ListEntry, Listed}

-- one cell more is expanded, and stands at the end of the list
pub list_on : {n : ℕ} {mark mark' : List ℕ} {count x : ℕ} {list : List ℕ} → Listed n mark count list → x < n → count < length list
    → OneMore (mark_in n mark) (mark_in n mark') 2 x → Listed n mark' (count + 1) (set list count x)
list_on {n} {mark} {mark'} {count} {x} {list} a on room o = record {
  inside = λ i l. at i (λ y. y < n) (λ k. a.inside i k) on l;
  marked = λ i l. at i (λ y. get_or mark' y 0 ≡ 2) (λ k. kept (get_or list i 0) (a.inside i k) (a.marked i k)) now_two l;
  each_one = λ y i m. find y i m (ℕ_discrete y x);
}
  where
    now_two : get_or mark' x 0 ≡ 2
    now_two = sym (mark_on n mark' x on) ∙ o.after

    kept : (y : ℕ) → y < n → get_or mark y 0 ≡ 2 → get_or mark' y 0 ≡ 2
    kept y i m = go (ℕ_discrete y x)
      where
        go : Dec (y ≡ x) → get_or mark' y 0 ≡ 2
        go (yes e) = rw e now_two
        go (no d) = sym (mark_on n mark' y i) ∙ o.to y d (mark_on n mark y i ∙ m)

    at : (i : ℕ) (P : ℕ → Type 0) → (i < count → P (get_or list i 0)) → P x → i < count + 1 → P (get_or (set list count x) i 0)
    at i P old new l = go (ℕ_discrete i count)
      where
        go : Dec (i ≡ count) → P (get_or (set list count x) i 0)
        go (yes e) = rw (e, get_or-set_same list count x 0 room) new
        go (no d) = rw (get_or-set_other list count i x 0 d) (old (omega arith))

    find : (y : ℕ) → y < n → get_or mark' y 0 ≡ 2 → Dec (y ≡ x) → ListEntry (count + 1) (set list count x) y
    find y i m (yes e) = record { index = count; low = omega arith; named = get_or-set_same list count x 0 room ∙ sym e }
    find y i m (no d) =
        let r = a.each_one y i (sym (mark_on n mark y i) ∙ o.back y d (mark_on n mark' y i ∙ m)) in
        record {
          index = r.index;
          low = omega (arith, r.low);
          named = get_or-set_other list count r.index x 0 (omega (arith, r.low)) ∙ r.named;
        }
