-- The test of soundness says what `Fit` says; sound data are consistent.
-- Assumes nothing.
use mathlib.Core.Path.{◌≡◌, refl, ap}
use mathlib.Core.Logic.{◌≢◌}
use mathlib.Core.Bool.{Bool, true, not}
use mathlib.Core.List.{List}
use Prim.Native.Nat.{ℕ, zero, suc, ◌≤◌, ◌<◌}
use native.Mathlib.Omega.{arith}
use borrow.Author.Tests.{ltb-true, leb-true, eqb-true, eqb-false, eq-eqb, ne_eqb, lt-ltb, le-leb}
use lib.Dec.{eqb}
use lib.ListN.{get_or}
use Rattle.walks.specs.Walk.{Consistent}
use Rattle.model.specs.Lists.{every}
use Rattle.model.specs.Plot.{cells, ahead, in_each, allowed, gap}
use Rattle.model.specs.Lent.{Lent}
use Rattle.model.specs.Head.{cells_of}
use Rattle.model.specs.Sound.{ground_entry, ground_sound, learned_entry, learned_sound, step_close, cell_close, neighbours_close, link_entry}
use Rattle.model.specs.Sound.{links_sound, sound}
use Rattle.model.specs.Ways.{Adj}
use Rattle.model.specs.declared.Head.{Head}
use Rattle.model.proofs.Lists.Bools.{and_left, and_right, and_both, or_right, make_or, use_test, make_test, not_eqb}
use Rattle.model.proofs.Lists.Filled.{every_at, all_every}
use Rattle.model.proofs.Grid.Geometry.{ahead_is, allowed_on, stepped_low, stepped_high, adj_back}
use Rattle.model.specs.Fit.{Linked, Fit}

-- Entry by entry --------------------------------------------------------------------------------------------------------------

-- what holds in each direction holds in the four
in_each_law : (test : ℕ → Bool) → in_each test ≡ true → (d : ℕ) → 1 ≤ d → d ≤ 4 → test d ≡ true
in_each_law test e zero l k = absurd (omega arith)
in_each_law test e (suc zero) l k = and_left (test 1) _ e
in_each_law test e (suc (suc zero)) l k = and_left (test 2) _ (and_right (test 1) _ e)
in_each_law test e (suc (suc (suc zero))) l k = and_left (test 3) _ (and_right (test 2) _ (and_right (test 1) _ e))
in_each_law test e (suc (suc (suc (suc zero)))) l k = and_right (test 3) _ (and_right (test 2) _ (and_right (test 1) _ e))
in_each_law test e (suc (suc (suc (suc (suc d))))) l k = absurd (omega arith)

module _ (w h : ℕ) (ground learned : List ℕ) where
  -- allowed steps lead to close values
  abbrev Close : Type 0
  Close = (c d : ℕ) → c < cells w h → allowed w h ground c d ≡ true → gap (get_or learned c 0) (get_or learned (ahead w h c d) 0) ≤ 1

  step_close_law : neighbours_close w h ground learned ≡ true → Close
  unfolding neighbours_close cell_close step_close
  step_close_law e c d l a =
      let s = ahead_is w h c d (allowed_on w h ground c d a) in
      let t =
      in_each_law (step_close w h ground learned c) (every_at (cells w h) (cell_close w h ground learned) e c l) d (stepped_low s) (stepped_high s) in
      leb-true _ _ (use_test (allowed w h ground c d) _ t a)

  close_steps : Close → neighbours_close w h ground learned ≡ true
  unfolding neighbours_close cell_close step_close
  close_steps f = all_every (cells w h) (cell_close w h ground learned) (λ c l.
      and_both _ _ (at c l 1) (and_both _ _ (at c l 2) (and_both _ _ (at c l 3) (at c l 4))))
    where
      at : (c : ℕ) → c < cells w h → (d : ℕ) → step_close w h ground learned c d ≡ true
      at c l d = make_test (allowed w h ground c d) _ (λ a. le-leb _ _ (f c d l a))

module _ (w h goal : ℕ) (ground link : List ℕ) (c : ℕ) where
  link_there : link_entry w h goal ground link c ≡ true → get_or link c 0 ≢ 0 → Linked w h goal ground link c
  unfolding link_entry
  link_there e n =
      let t = or_right (eqb (get_or link c 0) 0) _ e (ne_eqb (get_or link c 0) 0 n) in
      record { away = not_eqb c goal (and_left (not (eqb c goal)) _ t); may = and_right (not (eqb c goal)) _ t }

  there_link : (get_or link c 0 ≢ 0 → Linked w h goal ground link c) → link_entry w h goal ground link c ≡ true
  unfolding link_entry
  there_link f =
      make_or (eqb (get_or link c 0) 0) _ (λ e.
      let t = f (eqb-false (get_or link c 0) 0 e) in
      and_both (not (eqb c goal)) _ (ap not (ne_eqb c goal t.away)) t.may)

-- Soundness -------------------------------------------------------------------------------------------------------------------

module _ (head : Head) (p : Lent) where
  pub sound_fit : sound head p ≡ true → Fit head.width head.height head.goal head.cell p
  unfolding sound ground_sound learned_sound links_sound
  sound_fit e =
      let n = cells_of head in
      let w = head.width in
      let h = head.height in
      let g = and_left (ground_sound n head.cell p.ground) _ e in
      let e₁ = and_right (ground_sound n head.cell p.ground) _ e in
      let l = and_left (learned_sound n head.goal p.learned) _ e₁ in
      let e₂ = and_right (learned_sound n head.goal p.learned) _ e₁ in
      let c = and_left (neighbours_close w h p.ground p.learned) _ e₂ in
      let k = and_right (neighbours_close w h p.ground p.learned) _ e₂ in
      record {
        ground = λ c i. leb-true _ _ (every_at n (ground_entry p.ground) (and_left (every n (ground_entry p.ground)) _ g) c i);
        cart = and_right (every n (ground_entry p.ground)) _ g;
        learned = λ c i. ltb-true _ _ (every_at n (learned_entry n p.learned) (and_left (every n (learned_entry n p.learned)) _ l) c i);
        zero_there = eqb-true _ _ (and_right (every n (learned_entry n p.learned)) _ l);
        close = step_close_law w h p.ground p.learned c;
        links = λ c i. link_there w h head.goal p.ground p.link c (every_at n (link_entry w h head.goal p.ground p.link) k c i);
      }

  pub fit_sound : Fit head.width head.height head.goal head.cell p → sound head p ≡ true
  unfolding sound ground_sound learned_sound links_sound
  fit_sound f =
      let n = cells_of head in
      let w = head.width in
      let h = head.height in
      let g = and_both _ _ (all_every n (ground_entry p.ground) (λ c i. le-leb _ _ (f.ground c i))) f.cart in
      let l =
      and_both _ _ (all_every n (learned_entry n p.learned) (λ c i. lt-ltb _ _ (f.learned c i)))
      (eq-eqb (get_or p.learned head.goal 0) 0 f.zero_there) in
      let c = close_steps w h p.ground p.learned f.close in
      let k =
      all_every n (link_entry w h head.goal p.ground p.link)
      (λ c i. there_link w h head.goal p.ground p.link c (f.links c i)) in
      and_both _ _ g (and_both _ _ l (and_both _ _ c k))

-- What sound data give the theory ---------------------------------------------------------------------------------------------

-- SOUND DATA ARE CONSISTENT: along an allowed step the learned value falls by at most 1.
pub fit_consistent : {w h goal cell : ℕ} {p : Lent} → Fit w h goal cell p → Consistent (Adj w h p.ground) (λ x. get_or p.learned x 0)
fit_consistent f x y a = rw (← a.leg.lands) (omega (arith, f.close x a.dir a.leg.inside a.leg.may))

-- and the other way round, since steps go both ways
pub consistent_close : (w h : ℕ) (ground learned : List ℕ) → 0 < w → Consistent (Adj w h ground) (λ x. get_or learned x 0) → Close w h ground learned
consistent_close w h ground learned p k c d i a =
    let s : Adj w h ground c (ahead w h c d) = record { dir = d; leg = record { inside = i; may = a; lands = refl } } in
    omega (arith, k c (ahead w h c d) s, k (ahead w h c d) c (adj_back p s))
