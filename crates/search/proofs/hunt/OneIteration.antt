-- One iteration of document 01's search: nothing waits, or it stops at the first cell, or goes on.
-- Assumes nothing.
use mathlib.Core.Path.{◌≡◌, ap, ◌∙◌}
use mathlib.Core.Bool.{Bool, true, false}
use Prim.Native.Nat.{ℕ, zero, suc, ◌-◌, ◌<◌}
use native.Mathlib.Omega.{arith}
use borrow.Author.Tests.{eq-eqb, ne_eqb}
use lib.Dec.{eqb}
use Rattle.model.specs.Plot.{cells}
use Rattle.model.specs.Lent.{Lent, Scratch}
use Rattle.model.specs.Search.{expanded, Ended, stopped_at, nothing_waits, first, run}

module _ (w h : ℕ) (p : Lent) (stops : ℕ → Bool) (s : Scratch) where
  -- an iteration in which cell c is the first, and `rest` is what an expansion leaves to run
  abbrev iteration_at : (c : ℕ) (rest : ℕ → Ended) → Ended
  iteration_at c rest = elim (eqb c (cells w h)) [ true ↦ nothing_waits s | false ↦ elim (stops c) [ true ↦ stopped_at c s | false ↦ rest c ] ]

  -- what is to be run, in the iterations that are left, once c is expanded
  abbrev onward : (left c : ℕ) → Ended
  onward left c = run w h p stops left (expanded w h p.ground c s)

  run_next : (iterations : ℕ) → 0 < iterations → run w h p stops iterations s ≡ iteration_at (first w h p s) (onward (iterations - 1))
  unfolding run
  run_next zero l = absurd (omega arith)
  run_next (suc t) l = let q : t ≡ suc t - 1 = omega arith in ap (λ (k : ℕ). iteration_at (first w h p s) (onward k)) q

  iteration_empty : (c : ℕ) (rest : ℕ → Ended) → c ≡ cells w h → iteration_at c rest ≡ nothing_waits s
  iteration_empty c rest e = rw (iteration_at, eq-eqb c (cells w h) e)

  iteration_halts : (b c : ℕ) (rest : ℕ → Ended) → b ≡ c → c < cells w h → stops c ≡ true → iteration_at b rest ≡ stopped_at c s
  iteration_halts b c rest e on halt = ap (λ (k : ℕ). iteration_at k rest) e ∙ rw (iteration_at, ne_eqb c (cells w h) (omega arith), halt)

  iteration_on : (b c : ℕ) (rest : ℕ → Ended) → b ≡ c → c < cells w h → stops c ≡ false → iteration_at b rest ≡ rest c
  iteration_on b c rest e on go = ap (λ (k : ℕ). iteration_at k rest) e ∙ rw (iteration_at, ne_eqb c (cells w h) (omega arith), go)

  module _ (iterations : ℕ) (some : 0 < iterations) where
    pub run_empty : first w h p s ≡ cells w h → run w h p stops iterations s ≡ nothing_waits s
    run_empty e = run_next iterations some ∙ iteration_empty (first w h p s) (onward (iterations - 1)) e

    module _ (c : ℕ) (e : first w h p s ≡ c) (on : c < cells w h) where
      pub run_halts : stops c ≡ true → run w h p stops iterations s ≡ stopped_at c s
      run_halts b = run_next iterations some ∙ iteration_halts (first w h p s) c (onward (iterations - 1)) e on b

      pub run_on : stops c ≡ false → run w h p stops iterations s ≡ run w h p stops (iterations - 1) (expanded w h p.ground c s)
      run_on b = run_next iterations some ∙ iteration_on (first w h p s) c (onward (iterations - 1)) e on b
