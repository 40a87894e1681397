-- The cells of a route written one after the other: what a step of the walk keeps, and what stands in the buffer at its end.
-- Assumes nothing.
use Prim.Native.Nat.{ℕ, suc, ◌+◌, ◌-◌, ◌≤◌, ◌<◌}
use mathlib.Core.Path.{◌≡◌, refl, sym, ap, ◌∙◌}
use mathlib.Core.List.{List}
use native.Mathlib.Numerals.{add-one}
use native.Mathlib.Omega.{arith}
use lib.ListN.{length, set, length-set}
use lib.Seq.{sets, sets-eq}
use Rattle.model.specs.Plot.{cells}
use Rattle.model.specs.Lent.{fronted}
use Rattle.model.specs.Route.{next, cells_from}
use Rattle.model.proofs.Calls.ListLaws.{cells_long}
use Rattle.calls.specs.RouteWritten.{Onward, ends, goes}

module _ {w h : ℕ} {link : List ℕ} where
  pub onward_here : {v c : ℕ} → Onward w h link v c → c < cells w h
  onward_here (ends i) = i
  onward_here (goes i _) = i

  pub onward_next : {v c : ℕ} → Onward w h link v c → 0 < v → Onward w h link (v - 1) (next w h link c)
  onward_next (ends i) some = absurd (omega arith)
  onward_next (goes {v} i rest) some = let e : suc v - 1 ≡ v = omega arith in rw e rest

-- after i of v steps from c₀ the walk is at c, and l holds the i cells that it left
pub record Writing (w h : ℕ) (link : List ℕ) (v c₀ : ℕ) (l₀ : List ℕ) (i c : ℕ) (l : List ℕ) : Type 0 where
  pub low : i ≤ v
  pub onward : Onward w h link (v - i) c
  pub is : sets l i (cells_from w h link (v - i) c) ≡ sets l₀ 0 (cells_from w h link v c₀)
  pub long : length l ≡ length l₀

sets_next : (w h : ℕ) (link : List ℕ) (m k i c : ℕ) (l : List ℕ) → m ≡ suc k
    → sets l i (cells_from w h link m c) ≡ sets (set l i c) (i + 1) (cells_from w h link k (next w h link c))
unfolding cells_from
sets_next w h link m k i c l e = rw (e, add-one i)

sets_last : (w h : ℕ) (link : List ℕ) (m i c : ℕ) (l : List ℕ) → m ≡ 0 → sets l i (cells_from w h link m c) ≡ set l i c
unfolding cells_from
sets_last w h link m i c l e = rw e

sets_all : (vs l : List ℕ) → length vs ≤ length l → sets l 0 vs ≡ fronted vs l
sets_all vs l room =
    let e : 0 + length vs ≡ length vs = omega arith in
    rw e at (sets-eq vs l 0 (omega arith))

module _ {w h : ℕ} {link : List ℕ} {v c₀ : ℕ} where
  pub write_begin : (l₀ : List ℕ) → Onward w h link v c₀ → Writing w h link v c₀ l₀ 0 c₀ l₀
  write_begin l₀ o =
      let e : v - 0 ≡ v = omega arith in
      record { low = omega arith; onward = rw e o; is = rw e; long = refl }

  -- x is the cell to which c's link leads
  pub write_next : {l₀ : List ℕ} {i c : ℕ} {l : List ℕ} (x : ℕ) → Writing w h link v c₀ l₀ i c l → i < v → x ≡ next w h link c
      → Writing w h link v c₀ l₀ (i + 1) x (set l i c)
  write_next {l₀} {i} {c} {l} x t some e =
      let k : v - i - 1 ≡ v - (i + 1) = omega arith in
      record {
        low = omega arith;
        onward = rw (e, ← k) (onward_next t.onward (omega arith));
        is = rw e (sym (sets_next w h link (v - i) (v - (i + 1)) i c l (omega arith)) ∙ t.is);
        long = length-set l i c ∙ t.long;
      }

  pub write_end : {l₀ : List ℕ} {i c : ℕ} {l : List ℕ} → Writing w h link v c₀ l₀ i c l → v ≤ i → v < length l₀
      → set l v c ≡ fronted (cells_from w h link v c₀) l₀
  write_end {l₀} {i} {c} {l} t done room =
      let e : i ≡ v = omega arith in
      ap (λ (k : ℕ). set l k c) (sym e) ∙ sym (sets_last w h link (v - i) i c l (omega arith))
      ∙ t.is ∙ sets_all (cells_from w h link v c₀) l₀ (omega (arith, cells_long w h link v c₀))
