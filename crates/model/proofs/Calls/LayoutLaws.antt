-- Layout: what it leaves is as document 01 says, and accepted.
-- Assumes nothing.
use Rattle.std.specs.Prelude.{Ok, Err}
use mathlib.Core.Path.{◌≡◌, refl, ◌∙◌}
use mathlib.Core.List.{[], ◌∷◌}
use Prim.Native.Nat.{ℕ, ◌<◌}
use native.Mathlib.Omega.{arith}
use borrow.Author.Tests.{eq-eqb}
use lib.ListN.{get_or}
use Rattle.walks.specs.Walk.{Consistent}
use Rattle.model.specs.Refusals.{changed}
use Rattle.model.specs.Lists.{each}
use Rattle.model.specs.Plot.{cells, distance}
use Rattle.model.specs.Lent.{Lent, buffers_of, After}
use Rattle.model.specs.Head.{head_at, no_head}
use Rattle.model.specs.Layout.{layout_check, fresh, laid_out}
use Rattle.model.specs.Ways.{Adj, Accepts}
use Rattle.model.specs.declared.Reason.{Reason}
use Rattle.model.specs.Verdict.{Verdict}
use Rattle.model.specs.declared.Changed.{Changed}
use Rattle.model.proofs.Lists.Filled.{length_filled, filled_at}
use Rattle.model.proofs.Grid.Geometry.{leg_stepped, leg_inside}
use Rattle.model.specs.Fit.{Room, Placed, Held}
use Rattle.model.proofs.Calls.Soundness.{consistent_close}
use Rattle.model.proofs.Calls.Acceptance.{not_both, room_lent, both_on, place, fits_passed, held_accepts}
use Rattle.model.proofs.Grid.Manhattan.{step_near, distance_below, distance_self}

module _ (w h start goal : ℕ) (p : Lent) where
  -- what layout answers and leaves, in its two cases
  pub data LayingOut : After Changed → Type 0 where
    layout_refused : {why : Reason} → layout_check w h start goal p ≡ Err why
        → LayingOut (record { answer = changed no_head (Err why); lists = p })
    layout_laid : Placed w h goal start → Room (cells w h) p
        → LayingOut (record { answer = changed (head_at w h goal start) (Ok tt); lists = fresh w h goal p })

  pub layout_passed : layout_check w h start goal p ≡ Ok tt → Placed w h goal start × Room (cells w h) p
  unfolding layout_check
  layout_passed e =
      let f = fits_passed w h (buffers_of p) (goal ∷ start ∷ []) e in
      let on = both_on w h goal start f.2 in
      (place w h goal start f.0 on.0 on.1, room_lent (cells w h) p f.1)

  pub layout_is : LayingOut (laid_out w h start goal p)
  unfolding laid_out
  layout_is = go _ refl
    where
      go : (v : Verdict) → layout_check w h start goal p ≡ v → LayingOut (elim v [
        | Ok _ ↦ record { answer = changed (head_at w h goal start) (Ok tt); lists = fresh w h goal p }
        | Err why ↦ record { answer = changed no_head (Err why); lists = p }
      ])
      go (Ok _) e = let a = layout_passed e in layout_laid a.0 a.1
      go (Err why) e = layout_refused e

  -- Fresh data --------------------------------------------------------------------------------------------------------------------

  module _ (r : Placed w h goal start) (m : Room (cells w h) p) where
    fresh_ground : (c : ℕ) → c < cells w h → get_or (fresh w h goal p).ground c 0 ≡ 0
    unfolding fresh
    fresh_ground c i = filled_at (cells w h) (each 0) p.ground m.grounds c i

    pub fresh_learned : (c : ℕ) → c < cells w h → get_or (fresh w h goal p).learned c 0 ≡ distance w goal c
    unfolding fresh
    fresh_learned c i = filled_at (cells w h) (distance w goal) p.learned m.learneds c i

    fresh_link : (c : ℕ) → c < cells w h → get_or (fresh w h goal p).link c 0 ≡ 0
    unfolding fresh
    fresh_link c i = filled_at (cells w h) (each 0) p.link m.links c i

    fresh_consistent : Consistent (Adj w h (fresh w h goal p).ground) (λ x. get_or (fresh w h goal p).learned x 0)
    fresh_consistent x y a =
        omega (arith, step_near goal r.wide (leg_stepped a.leg), fresh_learned x a.leg.inside, fresh_learned y (leg_inside a.leg))

    pub fresh_held : Held (head_at w h goal start) (fresh w h goal p)
    unfolding fresh
    fresh_held = record {
      placed = r;
      room = record { grounds = simp length_filled m.grounds; learneds = simp length_filled m.learneds; links = simp length_filled m.links };
      fit = record {
        ground = λ c i. omega (arith, fresh_ground c i);
        cart = eq-eqb _ _ (fresh_ground start r.cart_on);
        learned = λ c i. omega (arith, fresh_learned c i, distance_below w h goal c r.wide r.high r.goal_on i);
        zero_there = fresh_learned goal r.goal_on ∙ distance_self w goal;
        close = consistent_close w h (fresh w h goal p).ground (fresh w h goal p).learned r.wide fresh_consistent;
        links = λ c i n. absurd (n (fresh_link c i));
      };
    }

  laid_held : {r : After Changed} → LayingOut r → r.answer.verdict ≡ Ok tt → Held r.answer.head r.lists
  laid_held (layout_refused e) q = absurd (not_both refl q)
  laid_held (layout_laid r m) q = fresh_held r m

  -- A FRESH LAYOUT IS SOUND.
  pub fresh_is_accepted : (laid_out w h start goal p).answer.verdict ≡ Ok tt
      → Accepts (laid_out w h start goal p).answer.head (laid_out w h start goal p).lists
  fresh_is_accepted q = held_accepts _ _ (laid_held layout_is q)
