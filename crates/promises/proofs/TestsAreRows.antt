-- What a test of a definition says is what a row of the table says; and a chain of tests gives a reason exactly as a chain of
-- rows does. Assumes nothing.
use Rattle.std.specs.Prelude.{Ok, Err}
use mathlib.Core.Path.{◌≡◌, refl, sym, ap, ◌∙◌}
use mathlib.Core.Logic.{◌⊎◌, inl, inr}
use mathlib.Core.Bool.{Bool, true, false, not, ◌&&◌, ◌||◌, false≢true}
use mathlib.Core.List.{List, [], ◌∷◌}
use Prim.Native.Nat.{ℕ, zero, suc, ◌≤◌, ◌<◌}
use native.Mathlib.Omega.{arith}
use borrow.Author.Tests.{ltb-true, ltb-false, leb-true, leb-false, eqb-true, eqb-false, lt-ltb, eq-eqb}
use lib.Dec.{ltb, leb, eqb}
use lib.ListN.{length, get_or}
use Rattle.model.specs.Plot.{cells, bad_side, bad_sides}
use Rattle.model.specs.Lent.{Lent}
use Rattle.model.specs.Sound.{sound}
use Rattle.model.specs.Route.{next, leads, stands}
use Rattle.model.specs.declared.Head.{Head}
use Rattle.model.proofs.Lists.Bools.{and_left, and_right, or_true}
use Rattle.model.proofs.Calls.Soundness.{sound_fit, fit_sound}
use Rattle.model.proofs.Grid.RouteLaws.{leads_goal}
use Rattle.model.specs.Refusals.{refuse_if, and_then, too_short, any_short, any_outside}
use Rattle.model.specs.declared.Reason.{Reason}
use Rattle.model.specs.Verdict.{Verdict}
use Rattle.model.proofs.Calls.Acceptance.{not_both}
use Rattle.promises.specs.Table.{Row, first, after, Done, Some, this, that, BadSide, BadSides, ShorterThan, OffPlot, Unfit, RouteFrom, there}
use Rattle.promises.specs.Table.{onward, Routeless}

-- Tests -----------------------------------------------------------------------------------------------------------------------------

-- a test is true exactly when this holds
pub record Tells (b : Bool) (P : Type 0) : Type 0 where
  pub yes : b ≡ true → P
  pub no : b ≡ false → ¬ P

either : {a b : Bool} {P Q : Type 0} → Tells a P → Tells b Q → Tells (a || b) (P ⊎ Q)
either {a = true} s t = record { yes = λ _. inl (s.yes refl); no = λ e. absurd (false≢true (sym e)) }
either {a = false} s t = record {
  yes = λ e. inr (t.yes e);
  no = λ e x. elim x [ inl p ↦ s.no refl p | inr q ↦ t.no e q ];
}

less : (m n : ℕ) → Tells (ltb m n) (m < n)
less m n = record { yes = ltb-true m n; no = λ e l. absurd (omega (arith, ltb-false m n e)) }

pub least : (m n : ℕ) → Tells (leb m n) (m ≤ n)
least m n = record { yes = leb-true m n; no = λ e l. absurd (omega (arith, leb-false m n e)) }

pub equal : (m n : ℕ) → Tells (eqb m n) (m ≡ n)
equal m n = record { yes = eqb-true m n; no = λ e q. eqb-false m n e q }

-- the other way round
pub failing : (b : Bool) → Tells (not b) (b ≡ false)
failing true = record { yes = λ e. absurd (false≢true e); no = λ _ e. false≢true (sym e) }
failing false = record { yes = λ _. refl; no = λ e. absurd (false≢true (sym e)) }

-- what a test says another way
pub tells_as : {b : Bool} {P Q : Type 0} → Tells b P → (P → Q) → (Q → P) → Tells b Q
tells_as t f g = record { yes = λ e. f (t.yes e); no = λ e q. t.no e (g q) }

pub unfit : (head : Head) (p : Lent) → Tells (not (sound head p)) (Unfit head p)
unfit head p =
    tells_as (failing (sound head p)) (λ e f. false≢true (sym e ∙ fit_sound head p f)) (λ u. go (sound head p) refl u)
  where
    go : (b : Bool) → sound head p ≡ b → Unfit head p → b ≡ false
    go true e u = absurd (u (sound_fit head p e))
    go false e u = refl

-- links lead to the goal exactly where a route is
route_there : (w h goal : ℕ) (p : Lent) (v c : ℕ) → get_or p.learned c 0 ≡ v → leads w h goal p.learned p.link v c ≡ true
    → RouteFrom w h goal p c
unfolding leads
route_there w h goal p zero c e t = rw (eqb-true c goal t) there
route_there w h goal p (suc v) c e t = go _ refl t (route_there w h goal p v (next w h p.link c))
  where
    rest : Bool
    rest =
        ltb (next w h p.link c) (cells w h)
        && (eqb (get_or p.learned (next w h p.link c) 0) v && leads w h goal p.learned p.link v (next w h p.link c))

    go : (b : Bool) → eqb c goal ≡ b → (b || rest) ≡ true
        → (get_or p.learned (next w h p.link c) 0 ≡ v → leads w h goal p.learned p.link v (next w h p.link c) ≡ true
        → RouteFrom w h goal p (next w h p.link c))
        → RouteFrom w h goal p c
    go true q t k = rw (eqb-true c goal q) there
    go false q t k =
        let i = ltb-true _ _ (and_left (ltb (next w h p.link c) (cells w h)) _ t) in
        let u = and_right (ltb (next w h p.link c) (cells w h)) _ t in
        let l = eqb-true _ _ (and_left (eqb (get_or p.learned (next w h p.link c) 0) v) _ u) in
        onward i (e ∙ ap suc (sym l)) (k l (and_right (eqb (get_or p.learned (next w h p.link c) 0) v) _ u))

there_leads : (w h goal : ℕ) (p : Lent) {c : ℕ} → RouteFrom w h goal p c → leads w h goal p.learned p.link (get_or p.learned c 0) c ≡ true
unfolding leads
there_leads w h goal p there = leads_goal w h goal p.learned p.link (get_or p.learned goal 0)
there_leads w h goal p (onward {c} i e r) = rw e (one i (there_leads w h goal p r))
  where
    n : ℕ
    n = next w h p.link c

    one : n < cells w h → leads w h goal p.learned p.link (get_or p.learned n 0) n ≡ true
        → leads w h goal p.learned p.link (suc (get_or p.learned n 0)) c ≡ true
    one i t = rw (leads, lt-ltb n (cells w h) i, eq-eqb (get_or p.learned n 0) (get_or p.learned n 0) refl, t) (or_true (eqb c goal))

pub routeless : (head : Head) (p : Lent) → Tells (not (stands head p)) (Routeless head p)
routeless head p =
    tells_as (failing (stands head p)) (λ e r. false≢true (sym e ∙ there_leads head.width head.height head.goal p r))
    (λ u. go (stands head p) refl u)
  where
    go : (b : Bool) → stands head p ≡ b → Routeless head p → b ≡ false
    go true e u = absurd (u (route_there head.width head.height head.goal p _ head.cell refl e))
    go false e u = refl

bad_side_law : (side : ℕ) → Tells (bad_side side) (BadSide side)
bad_side_law side = either (equal side 0) (less 64 side)

pub bad_sides_law : (w h : ℕ) → Tells (bad_sides w h) (BadSides w h)
unfolding bad_sides
bad_sides_law w h = either (bad_side_law w) (bad_side_law h)

-- one of a list, test by test
more : {A : Type 0} {P : A → Type 0} {x : A} {xs : List A} {a b : Bool} → Tells a (P x) → Tells b (Some P xs) → Tells (a || b) (Some P (x ∷ xs))
more {a = true} s t = record { yes = λ _. this (s.yes refl); no = λ e. absurd (false≢true (sym e)) }
more {P = P} {x = x} {xs = xs} {a = false} {b = b} s t = record { yes = λ e. that (t.yes e); no = go }
  where
    go : b ≡ false → ¬ Some P (x ∷ xs)
    go e (this p) = s.no refl p
    go e (that q) = t.no e q

none : {A : Type 0} {P : A → Type 0} → Tells false (Some P [])
none = record { yes = λ e. absurd (false≢true e); no = λ _. elim [ ] }

pub any_short_law : (n : ℕ) (ls : List (List ℕ)) → Tells (any_short n ls) (Some (ShorterThan n) ls)
any_short_law n [] = none
any_short_law n (l ∷ ls) = more (less (length l) n) (any_short_law n ls)

pub any_outside_law : (n : ℕ) (cs : List ℕ) → Tells (any_outside n cs) (Some (OffPlot n) cs)
any_outside_law n [] = none
any_outside_law n (c ∷ cs) = more (least n c) (any_outside_law n cs)

pub too_short_law : (n : ℕ) (l : List ℕ) → Tells (too_short n l) (ShorterThan n l)
too_short_law n l = less (length l) n

-- Chains ------------------------------------------------------------------------------------------------------------------------------

-- a verdict refuses for a reason exactly when these rows give it
pub record RowsFollow (v : Verdict) (rows : Reason → Type 0) : Type 0 where
  pub given : (why : Reason) → v ≡ Err why → rows why
  pub gives : (why : Reason) → rows why → v ≡ Err why

pub done : RowsFollow (Ok tt) Done
done = record { given = λ why e. absurd (not_both e refl); gives = λ why. elim [ ] }

same_reason : {why other : Reason} → ◌≡◌ {A = Verdict} (Err why) (Err other) → why ≡ other
same_reason e = cc

-- a test and what comes after it, which may count on the test
pub row_given : {b : Bool} {P : Type 0} {reason : Reason} {next : Verdict} {later : Reason → Type 0} → Tells b P → (b ≡ false → RowsFollow next later)
    → RowsFollow (refuse_if b reason next) (Row P reason later)
row_given {b = true} {P = P} {reason = reason} {next = next} {later = later} t f =
    record { given = λ why e. rw (← same_reason e) (first (t.yes refl)); gives = go }
  where
    go : (why : Reason) → Row P reason later why → refuse_if true reason next ≡ Err why
    go why (first p) = refl
    go why (after n l) = absurd (n (t.yes refl))
row_given {b = false} {P = P} {reason = reason} {next = next} {later = later} t f =
    record { given = λ why e. after (t.no refl) ((f refl).given why e); gives = go }
  where
    go : (why : Reason) → Row P reason later why → refuse_if false reason next ≡ Err why
    go why (first p) = absurd (t.no refl p)
    go why (after n l) = (f refl).gives why l

pub row : {b : Bool} {P : Type 0} {reason : Reason} {next : Verdict} {later : Reason → Type 0} → Tells b P → RowsFollow next later
    → RowsFollow (refuse_if b reason next) (Row P reason later)
row t f = row_given t (λ _. f)

pub same_verdict : {v u : Verdict} {rows : Reason → Type 0} → v ≡ u → RowsFollow u rows → RowsFollow v rows
same_verdict e f = rw e f

-- a chain that another follows
refuse_then : (b : Bool) (reason : Reason) (v next : Verdict) → and_then (refuse_if b reason v) next ≡ refuse_if b reason (and_then v next)
refuse_then true reason v next = refl
refuse_then false reason v next = refl

-- (a record, so that laws find the two verdicts by themselves)
pub record Chain (v next : Verdict) (rows : Reason → Type 0) : Type 0 where
  pub together : RowsFollow (and_then v next) rows

pub chain_end : {next : Verdict} {rows : Reason → Type 0} → RowsFollow next rows → Chain (Ok tt) next rows
chain_end f = record { together = f }

pub row_then : {b : Bool} {P : Type 0} {reason : Reason} {v next : Verdict} {later : Reason → Type 0} → Tells b P → (b ≡ false → Chain v next later)
    → Chain (refuse_if b reason v) next (Row P reason later)
row_then {b = b} {reason = reason} {v = v} {next = next} t f =
    record { together = same_verdict (refuse_then b reason v next) (row_given t (λ e. (f e).together)) }

pub then_then : (u v next : Verdict) → and_then (and_then u v) next ≡ and_then u (and_then v next)
then_then (Ok _) v next = refl
then_then (Err why) v next = refl

pub then_accepted : (v : Verdict) → and_then v (Ok tt) ≡ v
then_accepted (Ok _) = refl
then_accepted (Err why) = refl
