-- Laws of `relinked`, one for each way in which a step of the walk back goes: b is the cell before c.
-- Assumes nothing.
use Prim.Native.Nat.{ℕ, zero, suc, ◌-◌, ◌≤◌, ◌<◌}
use mathlib.Core.Path.{◌≡◌, refl, sym}
use mathlib.Core.List.{List}
use native.Mathlib.Omega.{arith}
use borrow.Author.Tests.{le-ltb}
use lib.ListN.{get_or, set}
use Rattle.model.specs.Plot.{cells, behind}
use Rattle.model.specs.Plan.{relinked}
use Rattle.model.proofs.Search.Trail as trailing

module _ (w h : ℕ) (trail : List ℕ) where
  pub relinked_done : (v c : ℕ) (link : List ℕ) → v ≡ 0 → relinked w h trail v c link ≡ link
  unfolding relinked
  relinked_done zero c link e = refl
  relinked_done (suc v) c link e = absurd (omega arith)

  pub relinked_off : (v c b : ℕ) (link : List ℕ) → b ≡ behind w h c (get_or trail c 0) → cells w h ≤ b → relinked w h trail v c link ≡ link
  unfolding relinked
  relinked_off zero c b link e off = refl
  relinked_off (suc v) c b link e off = rw (← e, le-ltb b (cells w h) off, relinked)

  pub relinked_next : (v c b : ℕ) (link : List ℕ) → (v ≡ 0 → ⊥) → b ≡ behind w h c (get_or trail c 0) → b < cells w h
      → relinked w h trail (v - 1) b (set link b (get_or trail c 0)) ≡ relinked w h trail v c link
  relinked_next zero c b link some e on = absurd (some refl)
  relinked_next (suc v) c b link some e on =
      let q : suc v - 1 ≡ v = omega arith in
      rw q (sym (trailing.relinked_next w h trail v c b link (sym e) on))
