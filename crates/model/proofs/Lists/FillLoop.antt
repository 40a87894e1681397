-- A loop that writes the first entries of a list, one after the other.
-- Assumes nothing.
use Prim.Native.Nat.{ℕ, ◌+◌}
use mathlib.Core.Path.{◌≡◌, refl, ◌∙◌}
use mathlib.Core.List.{List}
use native.Mathlib.Numerals.{add-one}
use lib.ListN.{length, set, length-set}
use Rattle.model.specs.Lists.{filled}

-- l is l₀ with `entry` of its place at each of the first k places
pub record Filled (entry : ℕ → ℕ) (k : ℕ) (l₀ l : List ℕ) : Type 0 where
  pub is : l ≡ filled k entry l₀
  pub long : length l ≡ length l₀

pub fill_begin : (entry : ℕ → ℕ) (l : List ℕ) → Filled entry 0 l l
unfolding filled
fill_begin entry l = record { is = refl; long = refl }

pub fill_next : {entry : ℕ → ℕ} {k : ℕ} {l₀ l : List ℕ} (v : ℕ) → Filled entry k l₀ l → v ≡ entry k → Filled entry (k + 1) l₀ (set l k v)
unfolding filled
fill_next {entry} {k} {l₀} {l} v f e = record { is = rw (add-one k, f.is, e); long = length-set l k v ∙ f.long }

pub fill_end : {entry : ℕ → ℕ} {k : ℕ} {l₀ l : List ℕ} (n : ℕ) → Filled entry k l₀ l → k ≡ n → l ≡ filled n entry l₀
fill_end n f e = rw e at f.is

-- fill_next, however the place of the entry is reckoned
pub fill_at : {entry : ℕ → ℕ} {k : ℕ} {l₀ l : List ℕ} (i v : ℕ) → Filled entry k l₀ l → i ≡ k → v ≡ entry k → Filled entry (k + 1) l₀ (set l i v)
fill_at {entry} {k} {l₀} {l} i v f z e = rw z (fill_next v f e)
