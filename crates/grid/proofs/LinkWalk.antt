-- One step of the walk along links: where it goes, and what links say from there.
-- Assumes nothing.
use mathlib.Core.Path.{◌≡◌, refl, sym, ◌∙◌}
use mathlib.Core.Logic.{◌≢◌}
use mathlib.Core.Bool.{Bool, true, false, cond, ◌&&◌}
use mathlib.Core.List.{List}
use Prim.Native.Nat.{ℕ, zero, suc, ◌-◌, ◌≤◌, ◌<◌}
use native.Mathlib.Omega.{arith}
use borrow.Author.Tests.{eq-eqb, ne_eqb, lt-ltb, le-ltb, ltb-true, eqb-true}
use lib.Dec.{ltb, eqb}
use lib.ListN.{get_or}
use Rattle.model.specs.Plot.{cells}
use Rattle.model.specs.Route.{next, leads}
use Rattle.model.proofs.Grid.RouteLaws.{leads_goal}
use Rattle.std.specs.Prelude.{Some, None}
use Rattle.grid.specs.declared.plot.Plot.{Plot}
use Rattle.grid.specs.CellOn.{cell_on}
use Rattle.grid.specs.Descent.{descend}
use Rattle.grid.proofs.CellLaws.{on_plot, off_plot, some_on, none_off}

-- the step from c, of learned value v, to x: one step fewer is left, and from x links say what they say from c
pub record Descent (w h goal : ℕ) (learned link : List ℕ) (v c x : ℕ) : Type 0 where
  pub some : 0 < v
  pub value : v - 1 ≡ get_or learned x 0
  pub same : leads w h goal learned link (v - 1) x ≡ leads w h goal learned link v c

pub leads_here : (w h goal : ℕ) (learned link : List ℕ) (v c : ℕ) → c ≡ goal → leads w h goal learned link v c ≡ true
leads_here w h goal learned link v c e = rw e (leads_goal w h goal learned link v)

module _ (p : Plot) (learned link : List ℕ) where
  -- no step: none is left, the link leads off the plot, or the value does not fall by 1
  pub descend_spent : (v c : ℕ) → v ≡ 0 → None ≡ cell_on p.cells (descend p.width p.height learned link v c)
  unfolding descend
  descend_spent zero c e = off_plot p.cells _ (omega (arith, p.product))
  descend_spent (suc v) c e = absurd (omega arith)

  pub descend_off : (v c : ℕ) → None ≡ cell_on p.cells (next p.width p.height link c) → None ≡ cell_on p.cells (descend p.width p.height learned link v c)
  unfolding descend
  descend_off zero c e = off_plot p.cells _ (omega (arith, p.product))
  descend_off (suc v) c e =
      let off : cells p.width p.height ≤ next p.width p.height link c = omega (arith, p.product, none_off e) in
      off_plot p.cells _ (rw (le-ltb (next p.width p.height link c) (cells p.width p.height) off) (omega (arith, p.product)))

  pub descend_apart : (v c x : ℕ) → Some x ≡ cell_on p.cells (next p.width p.height link c) → get_or learned x 0 ≢ v - 1
      → None ≡ cell_on p.cells (descend p.width p.height learned link v c)
  unfolding descend
  descend_apart zero c x e apart = off_plot p.cells _ (omega (arith, p.product))
  descend_apart (suc v) c x e apart =
      let t = some_on e in
      let on : x < cells p.width p.height = omega (arith, p.product, t.inside) in
      off_plot p.cells _
      (rw (← t.same, lt-ltb x (cells p.width p.height) on, ne_eqb (get_or learned x 0) v (λ q. apart (q ∙ omega arith))) (omega (arith, p.product)))

  -- the step goes to x
  pub descend_there : (v c x : ℕ) → v ≢ 0 → Some x ≡ cell_on p.cells (next p.width p.height link c) → get_or learned x 0 ≡ v - 1
      → Some x ≡ cell_on p.cells (descend p.width p.height learned link v c)
  unfolding descend
  descend_there zero c x some e same = absurd (some refl)
  descend_there (suc v) c x some e same =
      let t = some_on e in
      let f : suc v - 1 ≡ v = omega arith in
      let on : x < cells p.width p.height = omega (arith, p.product, t.inside) in
      rw (← t.same, lt-ltb x (cells p.width p.height) on, eq-eqb (get_or learned x 0) v (same ∙ f)) (on_plot p.cells x t.inside)

module _ (p : Plot) (goal : ℕ) (learned link : List ℕ) where
  -- the walk ends short of the goal
  pub leads_ends : (v c : ℕ) → c ≢ goal → None ≡ cell_on p.cells (descend p.width p.height learned link v c)
      → leads p.width p.height goal learned link v c ≡ false
  unfolding leads descend
  leads_ends zero c away e = ne_eqb c goal away
  leads_ends (suc v) c away e = rw (ne_eqb c goal away) (go _ _ refl refl (none_off e))
    where
      y : ℕ
      y = next p.width p.height link c

      go : (a b : Bool) → ltb y (cells p.width p.height) ≡ a → eqb (get_or learned y 0) v ≡ b → p.cells ≤ cond (a && b) y (cells p.width p.height)
          → (a && (b && leads p.width p.height goal learned link v y)) ≡ false
      go true true f g q = absurd (omega (arith, p.product, ltb-true y (cells p.width p.height) f))
      go true false f g q = refl
      go false b f g q = refl

  -- it goes on
  pub leads_descends : (v c x : ℕ) → c ≢ goal → Some x ≡ cell_on p.cells (descend p.width p.height learned link v c)
      → Descent p.width p.height goal learned link v c x
  unfolding leads descend
  leads_descends zero c x away e = absurd (omega (arith, p.product, (some_on e).same, (some_on e).inside))
  leads_descends (suc v) c x away e = go _ _ refl refl (some_on e).same
    where
      y : ℕ
      y = next p.width p.height link c

      go : (a b : Bool) → ltb y (cells p.width p.height) ≡ a → eqb (get_or learned y 0) v ≡ b → x ≡ cond (a && b) y (cells p.width p.height)
          → Descent p.width p.height goal learned link (suc v) c x
      go true true f g q =
          let less : suc v - 1 ≡ v = omega arith in
          record {
            some = omega arith;
            value = rw (q, less) (sym (eqb-true (get_or learned y 0) v g));
            same = rw (q, less, ne_eqb c goal away, f, g);
          }
      go true false f g q = absurd (omega (arith, p.product, (some_on e).inside))
      go false b f g q = absurd (omega (arith, p.product, (some_on e).inside))
