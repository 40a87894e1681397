-- A look, neighbour by neighbour: what the tests say of one, and which of the four is the first.
-- Assumes nothing.
use Rattle.std.specs.Prelude.{Option, Some, None, MatchOption, IsTrue}
use Rattle.std.specs.Fn.{Called, Mut}
use Rattle.std.specs.Iterator.Runs.{Run, ItemsCountUp, CallKeepsClosure, AllItemsGive, IsFirstToGive}
use Rattle.std.proofs.lemmas.Iterator.Adapters.{option_map_id}
use mathlib.Core.Path.{◌≡◌, refl, sym, ap, ◌∙◌}
use mathlib.Core.Bool.{Bool, true, false, cond, ◌&&◌}
use mathlib.Core.List.{List}
use Prim.Native.Nat.{ℕ, suc, zero, ◌+◌, ◌*◌, ◌≤◌, ◌<◌}
use native.Mathlib.Omega.{arith}
use borrow.Author.Tests.{ltb-true, lt-ltb, le-ltb, eq-eqb, ne_eqb}
use lib.Dec.{ltb, eqb}
use lib.ListN.{get_or}
use Rattle.model.specs.Plot.{ahead, free}
use Rattle.model.specs.Head.{cells_of}
use Rattle.model.specs.declared.Head.{Head}
use Rattle.model.proofs.Lists.Bools.{and_left}
use Rattle.grid.specs.CellOn.{cell_on}
use Rattle.grid.proofs.CellLaws.{off_plot, some_on, none_off}
use Rattle.turn.specs.Turn.{unknown, unknown_ahead, sighting}

-- the same step on a plot of the head's sides
pub on_head : (head : Head) (d : ℕ) {w h n : ℕ} {r : Option ℕ} → w ≡ head.width → h ≡ head.height → n ≡ w * h → r ≡ cell_on n (ahead w h head.cell d)
    → r ≡ cell_on (cells_of head) (ahead head.width head.height head.cell d)
on_head head d p q m e = rw (m, p, q) at e

module _ (head : Head) (truth ground : List ℕ) where
  -- One neighbour ---------------------------------------------------------------------------------------------------------------------

  module _ (d : ℕ) where
    pub none_ahead : None ≡ cell_on (cells_of head) (ahead head.width head.height head.cell d)
        → None ≡ cell_on (cells_of head) (unknown_ahead head truth ground d)
    unfolding unknown
    none_ahead e =
        let off = none_off e in
        off_plot (cells_of head) _ (rw (le-ltb (ahead head.width head.height head.cell d) (cells_of head) off) (omega arith))

    module _ {c : ℕ} (e : Some c ≡ cell_on (cells_of head) (ahead head.width head.height head.cell d)) where
      same : c ≡ ahead head.width head.height head.cell d
      same = (some_on e).same

      pub free_there : (get_or truth c 0 ≡ 1 → ⊥) → None ≡ cell_on (cells_of head) (unknown_ahead head truth ground d)
      unfolding unknown
      free_there t = off_plot (cells_of head) _ (rw (← same, ne_eqb (get_or truth c 0) 1 t) (go (ltb c (cells_of head))))
        where
          go : (b : Bool) → cells_of head ≤ cond (b && false) c (cells_of head)
          go true = omega arith
          go false = omega arith

      pub known_there : (get_or ground c 0 ≡ 0 → ⊥) → None ≡ cell_on (cells_of head) (unknown_ahead head truth ground d)
      unfolding unknown
      known_there t =
          off_plot (cells_of head) _
          (rw (← same, ne_eqb (get_or ground c 0) 0 t) (go (ltb c (cells_of head)) (eqb (get_or truth c 0) 1)))
        where
          go : (a b : Bool) → cells_of head ≤ cond (a && (b && false)) c (cells_of head)
          go true true = omega arith
          go true false = omega arith
          go false b = omega arith

      pub unknown_there : get_or truth c 0 ≡ 1 → get_or ground c 0 ≡ 0 → Some c ≡ cell_on (cells_of head) (unknown_ahead head truth ground d)
      unfolding unknown
      unknown_there t g =
          e ∙ ap (cell_on (cells_of head))
          (rw (← same, lt-ltb c (cells_of head) (some_on e).inside, eq-eqb (get_or truth c 0) 1 t, eq-eqb (get_or ground c 0) 0 g))

  -- The four --------------------------------------------------------------------------------------------------------------------------

  found : (d : ℕ) {c : ℕ} → Some c ≡ cell_on (cells_of head) (unknown_ahead head truth ground d) → unknown head truth ground d ≡ true
  found d {c} e = let i = some_on e in go _ refl i.same i.inside
    where
      go : (b : Bool) → unknown head truth ground d ≡ b → c ≡ cond b (ahead head.width head.height head.cell d) (cells_of head) → c < cells_of head
          → b ≡ true
      go true q s i = refl
      go false q s i = absurd (omega arith)

  missed : (d : ℕ) → None ≡ cell_on (cells_of head) (unknown_ahead head truth ground d) → unknown head truth ground d ≡ false
  unfolding unknown
  missed d e = go _ refl (none_off e)
    where
      c : ℕ
      c = ahead head.width head.height head.cell d

      go : (b : Bool) → (ltb c (cells_of head) && (eqb (get_or truth c 0) 1 && free ground c)) ≡ b → cells_of head ≤ cond b c (cells_of head)
          → b ≡ false
      go true q l = absurd (omega (arith, ltb-true c (cells_of head) (and_left (ltb c (cells_of head)) _ q)))
      go false q l = refl

  -- none of the first n
  abbrev Missed : ℕ → Type 0
  Missed n = (k : ℕ) → k < n → unknown head truth ground (1 + k) ≡ false

  first_is : (i : ℕ) → i < 4 → Missed i → unknown head truth ground (1 + i) ≡ true
      → unknown_ahead head truth ground (1 + i) ≡ sighting head truth ground
  unfolding sighting
  first_is zero l m f = rw (sighting, f) refl
  first_is (suc zero) l m f = rw (sighting, m 0 (omega arith), f) refl
  first_is (suc (suc zero)) l m f = rw (sighting, m 0 (omega arith), m 1 (omega arith), f) refl
  first_is (suc (suc (suc zero))) l m f = rw (sighting, m 0 (omega arith), m 1 (omega arith), m 2 (omega arith), f) refl
  first_is (suc (suc (suc (suc i)))) l m f = absurd (omega arith)

  none_is : Missed 4 → None ≡ cell_on (cells_of head) (sighting head truth ground)
  unfolding sighting
  none_is m =
      rw (sighting, m 0 (omega arith), m 1 (omega arith), m 2 (omega arith), m 3 (omega arith))
      (off_plot (cells_of head) (cells_of head) (omega arith))

  -- a direction, however it is reckoned
  pub reckoned : {d k : ℕ} {a : Option ℕ} → a ≡ cell_on (cells_of head) (unknown_ahead head truth ground k) → k ≡ d
      → a ≡ cell_on (cells_of head) (unknown_ahead head truth ground d)
  reckoned e q = rw q at e

  -- What `find_map` over 1 to 4 says: each call of the closure leaves it as it was, and at d answers what is unknown in direction d.
  module _ {S F : Type 0} {steps : S → Option ℕ → S → Type 0} {g : Mut F (ℕ × Unit {0}) (Option ℕ)} {f : F} (p : Run steps) (up : ItemsCountUp p 1 5)
      (keep : (d : ℕ) (a : Option ℕ) (f' : F) → Called g f (d, tt) a f' → f' ≡ f)
      (call : (d : ℕ) → 1 ≤ d → d ≤ 4 → (a : Option ℕ) (f' : F) → Called g f (d, tt) a f'
      → a ≡ cell_on (cells_of head) (unknown_ahead head truth ground d)) where
    keeps : CallKeepsClosure g f
    keeps x a f' h = keep x.0 a f' h

    at : (k : ℕ) → k < p.len → p.at k ≡ Some (1 + k)
    at k i = sym (option_map_id (p.at k)) ∙ up.3 k i

    passed : (k : ℕ) → k < 4 → Called g f (1 + k, tt) None f → unknown head truth ground (1 + k) ≡ false
    passed k i h = missed (1 + k) (call (1 + k) (omega arith) (omega arith) None f h)

    pub finds_first : (r : Option ℕ)
        → MatchOption r (IsTrue p.whole × AllItemsGive p g f None) (λ c. (i : ℕ) × (i < p.len) × (p.len ≡ i + 1) × IsFirstToGive p g f (Some c) None i)
        → r ≡ cell_on (cells_of head) (sighting head truth ground)
    finds_first None m = none_is (λ k l. passed k l (rw (at k (omega (arith, up.1 m.0))) at (m.1 keeps k)))
    finds_first (Some c) m =
        let h = m.3 keeps in
        let e = call (1 + m.0) (omega arith) (omega (arith, up.0, m.1)) (Some c) f (rw (at m.0 m.1) at h.0) in
        e ∙ ap (cell_on (cells_of head))
        (first_is m.0 (omega (arith, up.0, m.1)) (λ k l. passed k (omega (arith, up.0, m.1)) (rw (at k (omega (arith, m.1))) at (h.1 k l)))
        (found (1 + m.0) e))
