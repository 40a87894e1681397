-- The walk of a stop test: what is left of it is what was to be walked, and each cell it marks leads to the goal only if
-- the cell where it stands does.
-- Assumes nothing.
use mathlib.Core.Path.{◌≡◌, sym, ap, ◌∙◌}
use mathlib.Core.Logic.{◌≢◌, ◌⊎◌, inl, inr}
use mathlib.Core.Bool.{true, false, false≢true}
use mathlib.Core.List.{List}
use Prim.Native.Nat.{ℕ, ◌-◌, ◌≤◌, ◌<◌}
use native.Mathlib.Decide.{ℕ_discrete}
use native.Mathlib.Omega.{arith}
use lib.ListN.{length, get_or, set, length-set}
use lib.Seq.{get_or-set_other}
use Rattle.model.specs.Plot.{cells}
use Rattle.model.specs.Route.{leads}
use Rattle.grid.specs.Descent.{descend}
use Rattle.std.specs.Prelude.{Some, None}
use Rattle.grid.specs.declared.plot.Plot.{Plot}
use Rattle.grid.specs.CellOn.{cell_on}
use Rattle.grid.proofs.CellLaws.{some_on}
use Rattle.grid.proofs.LinkWalk.{leads_here, leads_ends, leads_descends}
use Rattle.search.specs.Memory.{leads_at, Tested}

-- a marked cell does not lead to the goal, or stands behind, and leads there only if the walk does
abbrev Behind : (w h goal : ℕ) (learned link : List ℕ) (at left x : ℕ) → Type 0
Behind w h goal learned link at left x =
    (leads_at w h goal learned link x ≡ false)
    ⊎ ((left < get_or learned x 0) × (leads w h goal learned link left at ≡ false → leads_at w h goal learned link x ≡ false))

-- from c, the walk stands at `at` with `left` steps left
pub record Walking (w h goal : ℕ) (learned link gone₀ : List ℕ) (c at left : ℕ) (gone : List ℕ) : Type 0 where
  pub on : at < cells w h
  pub value : left ≡ get_or learned at 0
  pub same : leads w h goal learned link left at ≡ leads_at w h goal learned link c
  pub marked : (x : ℕ) → x < cells w h → (get_or gone x 0 ≡ 0 → ⊥) → Behind w h goal learned link at left x
  pub long : length gone ≡ length gone₀

module _ {w h goal : ℕ} {learned link gone₀ : List ℕ} {c : ℕ} where
  module _ {at left : ℕ} {gone : List ℕ} (a : Walking w h goal learned link gone₀ c at left gone) where
    -- where the walk ends without the goal, every marked cell is gone
    walk_fails : leads w h goal learned link left at ≡ false → Tested w h goal learned link c false gone
    walk_fails e = record { answer = sym e ∙ a.same; memory = λ _. record { never = λ x i m. go x (a.marked x i m) } }
      where
        go : (x : ℕ) → Behind w h goal learned link at left x → leads_at w h goal learned link x ≡ false
        go x (inl f) = f
        go x (inr f) = f.1 e

    pub walk_there : at ≡ goal → Tested w h goal learned link c true gone
    walk_there e = record {
      answer = sym (leads_here w h goal learned link left at e) ∙ a.same;
      memory = λ f. absurd (false≢true (sym f));
    }

-- the cell is marked, and the step is taken
module _ (p : Plot) {goal : ℕ} {learned link gone₀ : List ℕ} {c at left : ℕ} {gone : List ℕ}
    (a : Walking p.width p.height goal learned link gone₀ c at left gone) (away : at ≢ goal) where
  -- with `at` marked: a cell of the same kind, seen from where the walk goes on, or fails
  marked_on : (at' left' : ℕ) → left' ≤ left
      → (leads p.width p.height goal learned link left' at' ≡ false → leads p.width p.height goal learned link left at ≡ false)
      → (left' < left ⊎ (leads p.width p.height goal learned link left at ≡ false))
      → (y : ℕ) → y < cells p.width p.height → (get_or (set gone at 1) y 0 ≡ 0 → ⊥) → Behind p.width p.height goal learned link at' left' y
  marked_on at' left' l on own y i m = go (ℕ_discrete y at)
    where
      same_value : leads p.width p.height goal learned link left at ≡ leads_at p.width p.height goal learned link at
      same_value = ap (λ (v : ℕ). leads p.width p.height goal learned link v at) a.value

      here : (left' < left) ⊎ (leads p.width p.height goal learned link left at ≡ false) → Behind p.width p.height goal learned link at' left' at
      here (inl k) = inr (omega (arith, a.value), λ f. sym same_value ∙ on f)
      here (inr f) = inl (sym same_value ∙ f)

      there : Behind p.width p.height goal learned link at left y → Behind p.width p.height goal learned link at' left' y
      there (inl f) = inl f
      there (inr f) = inr (omega (arith, f.0), λ g. f.1 (on g))

      go : Dec (y ≡ at) → Behind p.width p.height goal learned link at' left' y
      go (yes q) = rw q (here own)
      go (no d) = there (a.marked y i (λ z. m (get_or-set_other gone at y 1 0 d ∙ z)))

  pub walk_ends : None ≡ cell_on p.cells (descend p.width p.height learned link left at)
      → Tested p.width p.height goal learned link c false (set gone at 1)
  walk_ends off =
      let f : leads p.width p.height goal learned link left at ≡ false = leads_ends p goal learned link left at away off in
      walk_fails (record {
        on = a.on;
        value = a.value;
        same = a.same;
        marked = marked_on at left (omega arith) (λ g. g) (inr f);
        long = length-set gone at 1 ∙ a.long;
      }) f

  module _ (x : ℕ) (e : Some x ≡ cell_on p.cells (descend p.width p.height learned link left at)) where
    pub walk_some : 0 < left
    walk_some = (leads_descends p goal learned link left at x away e).some

    pub walk_on : Walking p.width p.height goal learned link gone₀ c x (left - 1) (set gone at 1)
    walk_on =
        let t = leads_descends p goal learned link left at x away e in
        record {
          on = omega (arith, p.product, (some_on e).inside);
          value = t.value;
          same = t.same ∙ a.same;
          marked = marked_on x (left - 1) (omega arith) (λ f. sym t.same ∙ f) (inl (omega (arith, t.some)));
          long = length-set gone at 1 ∙ a.long;
        }
