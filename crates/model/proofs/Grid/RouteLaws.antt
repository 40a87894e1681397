-- The test whether links lead to the goal is the theory's route.
-- Assumes nothing.
use mathlib.Core.Path.{◌≡◌, refl, sym, ap}
use mathlib.Core.Logic.{◌≢◌}
use mathlib.Core.Bool.{Bool, true, false, ◌&&◌, ◌||◌, false≢true}
use mathlib.Core.List.{List}
use Prim.Native.Nat.{ℕ, zero, suc, ◌<◌}
use native.Mathlib.Decide.{ℕ_discrete}
use native.Mathlib.Omega.{arith}
use borrow.Author.Tests.{ltb-true, eqb-true, eq-eqb, ne_eqb, lt-ltb}
use lib.Dec.{ltb, eqb}
use lib.ListN.{get_or}
use Rattle.walks.specs.Walk.{Fewest}
use Rattle.walks.specs.Route.{Route, arrived, follow}
use Rattle.walks.proofs.Walks.{admissible}
use Rattle.walks.proofs.Routes.{route_length, route_walk}
use Rattle.model.specs.Plot.{cells, ahead}
use Rattle.model.specs.Lent.{Lent}
use Rattle.model.specs.Route.{next, leads, leads_from}
use Rattle.model.specs.Ways.{Adj}
use Rattle.model.specs.Fit.{Fit}
use Rattle.model.proofs.Lists.Bools.{or_true}
use Rattle.model.proofs.Grid.Geometry.{none_ahead, leg_inside}
use Rattle.model.proofs.Calls.Soundness.{fit_consistent}
use Rattle.model.proofs.Grid.Views.{at, Link}

-- a route of n links from x
abbrev pub RouteOn : (w h goal : ℕ) → Lent → (x n : ℕ) → Type 0
RouteOn w h goal p x n = Route (Link w h p.ground p.link) (at p.learned) goal x n

-- a link that is not 0 is an allowed step
fit_link : {w h goal cell : ℕ} {p : Lent} → Fit w h goal cell p → (c : ℕ) → c < cells w h → get_or p.link c 0 ≢ 0
    → Link w h p.ground p.link c (next w h p.link c)
fit_link f c i n = record { inside = i; may = (f.links c i n).may; lands = refl }

-- one step of the test
leads_on : (w h goal : ℕ) (learned link : List ℕ) (v c : ℕ) → leads w h goal learned link (suc v) c ≡ true → c ≢ goal → (next w h link c < cells w h)
    × (get_or learned (next w h link c) 0 ≡ v) × (leads w h goal learned link v (next w h link c) ≡ true)
unfolding leads
leads_on w h goal learned link v c t n = go _ _ _ _ (ne_eqb c goal n) refl refl refl t
  where
    go : (a b d e : Bool) → a ≡ false → ltb (next w h link c) (cells w h) ≡ b → eqb (get_or learned (next w h link c) 0) v ≡ d
        → leads w h goal learned link v (next w h link c) ≡ e → (a || (b && (d && e))) ≡ true → (next w h link c < cells w h)
        × (get_or learned (next w h link c) 0 ≡ v) × (leads w h goal learned link v (next w h link c) ≡ true)
    go true b d e q f g k t = absurd (false≢true (sym q))
    go false true true true q f g k t = (ltb-true _ _ f, eqb-true _ _ g, k)
    go false true true false q f g k t = absurd (false≢true t)
    go false true false e q f g k t = absurd (false≢true t)
    go false false d e q f g k t = absurd (false≢true t)

on_leads : (w h goal : ℕ) (learned link : List ℕ) (v c : ℕ) → next w h link c < cells w h → get_or learned (next w h link c) 0 ≡ v
    → leads w h goal learned link v (next w h link c) ≡ true → leads w h goal learned link (suc v) c ≡ true
unfolding leads
on_leads w h goal learned link v c l e t =
    go (eqb c goal) (lt-ltb _ _ l) (eq-eqb (get_or learned (next w h link c) 0) v e) t
  where
    go : (a : Bool) {b d e : Bool} → b ≡ true → d ≡ true → e ≡ true → (a || (b && (d && e))) ≡ true
    go a p q r = rw (p, q, r) (or_true a)

pub leads_goal : (w h goal : ℕ) (learned link : List ℕ) (v : ℕ) → leads w h goal learned link v goal ≡ true
unfolding leads
leads_goal w h goal learned link zero = eq-eqb goal goal refl
leads_goal w h goal learned link (suc v) = rw (eq-eqb goal goal refl)

leads_none : (w h goal : ℕ) (learned link : List ℕ) (c : ℕ) → leads w h goal learned link 0 c ≡ true → c ≡ goal
unfolding leads
leads_none w h goal learned link c t = eqb-true _ _ t

-- from another cell than the goal the link leads to a cell of the plot
pub leads_ahead : (w h goal : ℕ) (learned link : List ℕ) (v c : ℕ) → leads w h goal learned link v c ≡ true → c ≢ goal
    → next w h link c < cells w h
leads_ahead w h goal learned link zero c t away = absurd (away (leads_none w h goal learned link c t))
leads_ahead w h goal learned link (suc v) c t away = (leads_on w h goal learned link v c t away).0

module _ {w h goal cell : ℕ} (p : Lent) (f : Fit w h goal cell p) where
  -- where the test passes a route stands
  leads_some : (v c : ℕ) → c < cells w h → get_or p.learned c 0 ≡ v → leads w h goal p.learned p.link v c ≡ true
      → (n : ℕ) × RouteOn w h goal p c n
  leads_some zero c i e t = (0, rw (leads_none w h goal p.learned p.link c t) arrived)
  leads_some (suc v) c i e t = go (ℕ_discrete c goal) (leads_some v)
    where
      go : Dec (c ≡ goal)
          → ((x : ℕ) → x < cells w h → get_or p.learned x 0 ≡ v → leads w h goal p.learned p.link v x ≡ true
          → (n : ℕ) × RouteOn w h goal p x n) → (n : ℕ) × RouteOn w h goal p c n
      go (yes q) rest = (0, rw q arrived)
      go (no d) rest =
          let t = leads_on w h goal p.learned p.link v c t d in
          let r = rest (next w h p.link c) t.0 t.1 t.2 in
          let k : get_or p.link c 0 ≢ 0 = λ q. absurd (omega (arith, t.0, none_ahead w h c, ap (ahead w h c) q)) in
          (suc r.0, follow (fit_link f c i k) (omega (arith, t.1)) r.1)

  pub leads_route : (c : ℕ) → c < cells w h → leads_from w h goal p c ≡ true → (n : ℕ) × RouteOn w h goal p c n
  leads_route c i t = leads_some (get_or p.learned c 0) c i refl t

  pub leads_stands : (c : ℕ) → c < cells w h → leads_from w h goal p c ≡ true → RouteOn w h goal p c (at p.learned c)
  leads_stands c i t =
      let r = leads_route c i t in
      rw (route_length f.zero_there r.1) r.1

-- and where a route stands the test passes
route_some : (w h goal : ℕ) (p : Lent) → get_or p.learned goal 0 ≡ 0 → {c n : ℕ} → RouteOn w h goal p c n
    → leads w h goal p.learned p.link n c ≡ true
route_some w h goal p z arrived = leads_goal w h goal p.learned p.link 0
route_some w h goal p z (follow {x = x} {y = y} {n = n} k e r) =
    on_leads w h goal p.learned p.link n x (rw k.lands (leg_inside k)) (rw k.lands (route_length z r))
    (rw k.lands (route_some w h goal p z r))

pub route_leads : (w h goal : ℕ) (p : Lent) → get_or p.learned goal 0 ≡ 0 → {c n : ℕ} → RouteOn w h goal p c n → leads_from w h goal p c ≡ true
route_leads w h goal p z r = rw (route_length z r) (route_some w h goal p z r)

pub link_adj : (w h : ℕ) (ground link : List ℕ) (x y : ℕ) → Link w h ground link x y → Adj w h ground x y
link_adj w h ground link x y k = record { dir = get_or link x 0; leg = k }

-- A standing route has the fewest steps.
pub route_fewest : {w h goal cell : ℕ} (p : Lent) → Fit w h goal cell p → {x n : ℕ} → RouteOn w h goal p x n → Fewest (Adj w h p.ground) x goal n
route_fewest {w} {h} p f {x} {n} r = record {
  walk = route_walk {Adj = Adj w h p.ground} (link_adj w h p.ground p.link) r;
  least = λ m v. omega (arith, route_length f.zero_there r, admissible (fit_consistent f) f.zero_there v);
}
