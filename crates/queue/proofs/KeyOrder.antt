-- The order of keys is document 01's order of waiting cells: the one law that ties `key_of` to `earlier`.
-- Assumes nothing.
use mathlib.Core.Path.{◌≡◌, refl}
use mathlib.Core.Logic.{◌≢◌}
use mathlib.Core.Bool.{Bool, true, false}
use mathlib.Core.List.{List}
use Prim.Native.Nat.{ℕ, ◌%◌, ◌≤◌, ◌<◌}
use native.Mathlib.Omega.{arith}
use lib.ListN.{get_or}
use Rattle.model.specs.Lent.{Scratch}
use Rattle.model.specs.Search.{total, smaller_first, earlier}
use Rattle.model.proofs.Search.Order.{SmallerFirst, less, equal, first_is, earlier_total}
use Rattle.queue.specs.Queue.{key_of}

-- the key names its cell
pub key_cell : (cost learned cell : ℕ) → cell < 65536 → key_of cost learned cell % 65536 ≡ cell
key_cell cost learned cell l = omega arith

module _ (learned : List ℕ) (s : Scratch) where
  -- the key of cell c
  abbrev pub key_at : ℕ → ℕ
  key_at c = key_of (get_or s.cost c 0) (get_or learned c 0) c

  -- what is taken before has the lesser key
  earlier_key : (a b : ℕ) → get_or s.cost a 0 ≤ 65535 → get_or s.cost b 0 ≤ 65535 → a < 65536 → b < 65536 → earlier learned s a b ≡ true
      → key_at a < key_at b
  unfolding earlier
  earlier_key a b ca cb la lb e = by_total (first_is _ _ _ e)
    where
      by_number : SmallerFirst a b false → get_or s.cost a 0 ≡ get_or s.cost b 0 → total learned s.cost a ≡ total learned s.cost b
          → key_at a < key_at b
      by_number (less l) q t = omega arith
      by_number (equal l f) q t = let z : ◌≡◌ {A = ℕ} 0 1 = cc in absurd (omega arith)

      by_cost : {next : Bool} → (next ≡ true → SmallerFirst a b false) → SmallerFirst (get_or s.cost b 0) (get_or s.cost a 0) next
          → total learned s.cost a ≡ total learned s.cost b → key_at a < key_at b
      by_cost on (less l) t = omega arith
      by_cost on (equal l f) t = by_number (on f) (omega arith) t

      by_total : SmallerFirst (total learned s.cost a) (total learned s.cost b)
          (smaller_first (get_or s.cost b 0) (get_or s.cost a 0) (smaller_first a b false)) → key_at a < key_at b
      by_total (less l) = omega arith
      by_total (equal l f) = by_cost (first_is a b false) (first_is _ _ _ f) l

  -- so of two cells the one with the lesser key is taken before
  pub key_earlier : (a b : ℕ) → get_or s.cost a 0 ≤ 65535 → get_or s.cost b 0 ≤ 65535 → a < 65536 → b < 65536 → a ≢ b → key_at a ≤ key_at b
      → earlier learned s a b ≡ true
  key_earlier a b ca cb la lb d l = go _ refl
    where
      go : (t : Bool) → earlier learned s a b ≡ t → earlier learned s a b ≡ true
      go true e = e
      go false e = absurd (omega (arith, earlier_key b a cb ca lb la (earlier_total learned s a b d e)))
