-- What is written is what the definitions of layout and report say of an accepted call.
-- Assumes nothing.
use Rattle.std.specs.Prelude.{Ok}
use Prim.Native.Nat.{ℕ}
use mathlib.Core.Path.{◌≡◌}
use mathlib.Core.List.{List}
use borrow.Author.Tests.{eq-eqb, ne_eqb}
use lib.ListN.{get_or, set}
use Rattle.model.specs.Lists.{filled, each}
use Rattle.model.specs.Plot.{cells, distance}
use Rattle.model.specs.Lent.{Lent, lent_with, after}
use Rattle.model.specs.Head.{head_at}
use Rattle.model.specs.Refusals.{changed}
use Rattle.model.specs.Layout.{layout_check, fresh, laid_out}
use Rattle.model.specs.Report.{report_check, unlinked, reported}
use Rattle.model.specs.declared.Head.{Head}
use Rattle.model.proofs.Calls.ReportsCommute.{blocked_new, blocked_known}

-- a layout of n cells that is accepted, over any three lists that are as it says
pub layout_done : (w h start goal n : ℕ) (p : Lent) (head : Head) (ground learned link : List ℕ) → layout_check w h start goal p ≡ Ok tt
    → n ≡ cells w h → head ≡ head_at w h goal start
    → ground ≡ filled n (each 0) p.ground → learned ≡ filled n (distance w goal) p.learned → link ≡ filled n (each 0) p.link
    → after (changed head (Ok tt)) (lent_with ground learned link) ≡ laid_out w h start goal p
unfolding laid_out fresh
layout_done w h start goal n p head ground learned link e c a g l k = rw (e, laid_out, a, g, l, k, c)

module _ (head : Head) (p : Lent) (c : ℕ) (e : report_check head p c ≡ Ok tt) where
  -- a report of a free cell
  pub report_free : (link : List ℕ) → get_or p.ground c 0 ≡ 0 → link ≡ unlinked head.width head.height p.link c
      → after (changed head (Ok tt)) (lent_with (set p.ground c 1) p.learned link) ≡ reported head p c
  unfolding reported
  report_free link f k = rw (e, reported, blocked_new head p c (eq-eqb (get_or p.ground c 0) 0 f), k)

  -- and of a cell already blocked
  pub report_known : (get_or p.ground c 0 ≡ 0 → ⊥) → after (changed head (Ok tt)) p ≡ reported head p c
  unfolding reported
  report_known f = rw (e, reported, blocked_known head p c (ne_eqb (get_or p.ground c 0) 0 f))
