-- The trail that a search leaves leads from the stop back to the cart's cell, in as many steps as the stop costs, and
-- never leaves the plot. Along it the links are laid, and they make a route.
-- Assumes nothing.
use mathlib.Core.Path.{◌≡◌, refl, sym, ap, ◌∙◌}
use mathlib.Core.Logic.{◌≢◌}
use mathlib.Core.Bool.{Bool, true, false}
use mathlib.Core.List.{List}
use Prim.Native.Nat.{ℕ, zero, suc, ◌+◌, ◌-◌, ◌≤◌, ◌<◌}
use native.Mathlib.Decide.{ℕ_discrete}
use native.Mathlib.Nat.{add-zero}
use native.Mathlib.Omega.{arith}
use borrow.Author.Tests.{lt-ltb}
use lib.Dec.{ltb}
use lib.ListN.{length, get_or, set, length-set}
use lib.Seq.{get_or-set_same, get_or-set_other}
use Rattle.walks.specs.Search.{Reached}
use Rattle.walks.proofs.Routes.{Laid, laid_first, laid_next, laid_last}
use Rattle.model.specs.Plot.{cells, behind, allowed}
use Rattle.model.specs.Lent.{Lent, Scratch}
use Rattle.model.specs.Route.{leads_from}
use Rattle.model.specs.Search.{total}
use Rattle.model.specs.Plan.{relinked, improved}
use Rattle.model.specs.Ways.{Leg, Adj}
use Rattle.model.proofs.Lists.Filled.{length_filled}
use Rattle.model.proofs.Grid.Geometry.{leg_behind}
use Rattle.model.specs.Fit.{Linked, Fit, Room, Placed}
use Rattle.model.proofs.Calls.Soundness.{consistent_close}
use Rattle.model.proofs.Grid.Views.{at, Link, mark_in, view, seen_inside}
use Rattle.model.proofs.Grid.RouteLaws.{RouteOn, route_leads}
use Rattle.model.proofs.Search.SearchInvariant.{Stopped}
use Rattle.model.proofs.Search.Lessons.{goal_halts, learned_after, route_at_stop, lessons, stopped_zero, stopped_consistent, stopped_small}

-- the cell k steps back along the trail from c
unfoldable pub back_from : (w h : ℕ) (trail : List ℕ) (c k : ℕ) → ℕ
back_from w h trail c zero = c
back_from w h trail c (suc k) =
    let b = back_from w h trail c k in
    behind w h b (get_or trail b 0)

-- one step back first
back_shift : (w h : ℕ) (trail : List ℕ) (c k : ℕ) → back_from w h trail (behind w h c (get_or trail c 0)) k ≡ back_from w h trail c (suc k)
unfolding back_from
back_shift w h trail c zero = refl
back_shift w h trail c (suc k) = ap (λ (b : ℕ). behind w h b (get_or trail b 0)) (back_shift w h trail c k)

-- OTHER LINKS STAY: where x is none of the cells before c on the trail, its link is what it was.
pub relinked_other : (w h : ℕ) (trail : List ℕ) (v c : ℕ) (link : List ℕ) (x : ℕ) → ((k : ℕ) → k < v → back_from w h trail c (suc k) ≢ x)
    → get_or (relinked w h trail v c link) x 0 ≡ get_or link x 0
unfolding relinked back_from
relinked_other w h trail zero c link x off = refl
relinked_other w h trail (suc v) c link x off = go (ltb (behind w h c (get_or trail c 0)) (cells w h)) (relinked_other w h trail v)
  where
    first : x ≢ behind w h c (get_or trail c 0)
    first e = off 0 (omega arith) (sym e)

    go : (b : Bool)
        → ((c : ℕ) (link : List ℕ) (x : ℕ) → ((k : ℕ) → k < v → back_from w h trail c (suc k) ≢ x)
        → get_or (relinked w h trail v c link) x 0 ≡ get_or link x 0)
        → get_or (elim b [
          | true ↦ relinked w h trail v (behind w h c (get_or trail c 0)) (set link (behind w h c (get_or trail c 0)) (get_or trail c 0))
          | false ↦ link
        ]) x 0 ≡ get_or link x 0
    go true rest =
        rest _ _ x (λ k l e. off (suc k) (omega arith) (sym (back_shift w h trail c (suc k)) ∙ e))
        ∙ get_or-set_other link (behind w h c (get_or trail c 0)) x (get_or trail c 0) 0 first
    go false rest = refl

-- each link that is not 0 is an allowed step
abbrev AllLinked : (w h goal : ℕ) (ground link : List ℕ) → Type 0
AllLinked w h goal ground link = (c : ℕ) → c < cells w h → get_or link c 0 ≢ 0 → Linked w h goal ground link c

pub relinked_at : {w h goal : ℕ} {ground : List ℕ} (link link' : List ℕ) {c : ℕ} → get_or link' c 0 ≡ get_or link c 0 → Linked w h goal ground link c
    → Linked w h goal ground link' c
relinked_at link link' e l = record { away = l.away; may = rw e l.may }

set_linked : {w h goal : ℕ} {ground : List ℕ} (link : List ℕ) (b d : ℕ) → cells w h ≤ length link → b < cells w h → b ≢ goal
    → allowed w h ground b d ≡ true → AllLinked w h goal ground link → AllLinked w h goal ground (set link b d)
set_linked {w} {h} {goal} {ground} link b d r i away may all c j n = go (ℕ_discrete c b)
  where
    go : Dec (c ≡ b) → Linked w h goal ground (set link b d) c
    go (yes e) = rw e (record { away = away; may = rw (get_or-set_same link b d 0 (omega arith)) may })
    go (no q) =
        let k = get_or-set_other link b c d 0 q in
        relinked_at link (set link b d) k (all c j (λ z. n (k ∙ z)))

-- one step of laying, where the trail stays on the plot
pub relinked_next : (w h : ℕ) (trail : List ℕ) (v c b : ℕ) (link : List ℕ) → behind w h c (get_or trail c 0) ≡ b → b < cells w h
    → relinked w h trail (suc v) c link ≡ relinked w h trail v b (set link b (get_or trail c 0))
unfolding relinked
relinked_next w h trail v c b link e on =
    rw (e, lt-ltb b (cells w h) on, relinked) (ap (λ (k : ℕ). relinked w h trail v k (set link k (get_or trail c 0))) e)

module _ {w h goal cell : ℕ} (p : Lent) (r : Placed w h goal cell) (m : Room (cells w h) p) (f : Fit w h goal cell p)
    (t : ℕ) (s : Scratch) (e : Stopped w h cell p (leads_from w h goal p) t s) where
  -- a seen cell that costs something was reached from one that costs one less; the cart's cell alone costs nothing
  came_from : (x k : ℕ) → 1 ≤ mark_in (cells w h) s.mark x → at s.cost x ≡ suc k
      → Reached (Adj w h p.ground) (Leg w h p.ground) (view (cells w h) s) x
  came_from x k seen v = e.holds.reached x seen (λ z. absurd (omega (arith, ap (at s.cost) z, e.holds.origin)))

  came_first : (x : ℕ) → 1 ≤ mark_in (cells w h) s.mark x → at s.cost x ≡ 0 → x ≡ cell
  came_first x seen v = go (ℕ_discrete x cell)
    where
      go : Dec (x ≡ cell) → x ≡ cell
      go (yes q) = q
      go (no d) = absurd (omega (arith, (e.holds.reached x seen d).dearer))

  -- THE TRAIL. k steps back from the stop stands a seen cell that costs k less.
  pub record TrailBack (k : ℕ) : Type 0 where
    pub seen : 1 ≤ mark_in (cells w h) s.mark (back_from w h s.trail t k)
    pub cheaper : at s.cost (back_from w h s.trail t k) + k ≡ at s.cost t

  back_is : (k : ℕ) → k ≤ at s.cost t → TrailBack k
  unfolding back_from
  back_is zero l = record { seen = omega (arith, e.pick.waits); cheaper = omega arith }
  back_is (suc k) l = go (back_is k (omega arith))
    where
      go : TrailBack k → TrailBack (suc k)
      go b =
          let c = back_from w h s.trail t k in
          let q = came_from c (at s.cost t - suc k) b.seen (omega (arith, b.cheaper)) in
          let a = leg_behind r.wide q.by in
          record { seen = rw a (omega (arith, q.expanded)); cheaper = rw a (omega (arith, q.dearer, b.cheaper)) }

  -- It stays on the plot, and leads back to the cart's cell.
  pub trail_stays : (k : ℕ) → k ≤ at s.cost t → back_from w h s.trail t k < cells w h
  trail_stays k l = seen_inside (cells w h) s.mark _ (back_is k l).seen

  pub trail_leads_back : back_from w h s.trail t (at s.cost t) ≡ cell
  trail_leads_back =
      let b = back_is (at s.cost t) (omega arith) in
      came_first _ b.seen (omega (arith, b.cheaper))

  -- LAYING. From x a route of n links stands, and all links are allowed steps.
  record RelinkedSoFar (link : List ℕ) (x n : ℕ) : Type 0 where
    laid : Laid (view (cells w h) s) (at (learned_after w h p t s)) (total p.learned s.cost t) (Link w h p.ground link) goal x n
    long : cells w h ≤ length link
    all : AllLinked w h goal p.ground link

  -- one step back
  lay_back : (x n : ℕ) (link : List ℕ) → RelinkedSoFar link x n → (q : Reached (Adj w h p.ground) (Leg w h p.ground) (view (cells w h) s) x)
      → RelinkedSoFar (set link q.prev (at s.trail x)) q.prev (suc n)
  lay_back x n link l q =
      let i = seen_inside (cells w h) s.mark q.prev (omega (arith, q.expanded)) in
      let away : q.prev ≢ goal = λ z. e.holds.going q.prev q.expanded (rw z (goal_halts w h goal p)) in
      record {
        laid =
            laid_next e.holds e.pick (lessons p r m f t s e) l.laid q
            (rw (get_or-set_same link q.prev (at s.trail x) 0 (omega (arith, l.long))) q.by)
            (λ y v d k. rw (get_or-set_other link q.prev y (at s.trail x) 0 d) k);
        long = rw length-set l.long;
        all = set_linked link q.prev (at s.trail x) l.long i away q.by.may l.all;
      }

  lay_is : (k x n : ℕ) (link : List ℕ) → at s.cost x ≡ k → RelinkedSoFar link x n → RelinkedSoFar (relinked w h s.trail k x link) cell (n + k)
  unfolding relinked
  lay_is zero x n link v l = rw add-zero (rw (came_first x l.laid.seen v) at l)
  lay_is (suc k) x n link v l =
      let q = came_from x k l.laid.seen v in
      let i = seen_inside (cells w h) s.mark q.prev (omega (arith, q.expanded)) in
      let j : n + suc k ≡ suc n + k = omega arith in
      rw (relinked_next w h s.trail k x q.prev link (leg_behind r.wide q.by) i, j)
      (lay_is k q.prev (suc n) (set link q.prev (at s.trail x)) (omega (arith, q.dearer)) (lay_back x n link l q))

  laying : RelinkedSoFar (improved w h p t s).link cell (at p.learned t + at s.cost t)
  unfolding improved
  laying = lay_is (at s.cost t) t (at p.learned t) p.link refl (record {
    laid = laid_first e.holds e.pick (lessons p r m f t s e) (λ x k q. route_leads w h goal p f.zero_there q) (route_at_stop p r m f t s e);
    long = m.links;
    all = f.links;
  })

  -- THE ROUTE STANDS, with the length stated.
  pub stopped_route : RouteOn w h goal (improved w h p t s) cell (total p.learned s.cost t)
  unfolding improved
  stopped_route =
      let l = laying.laid in
      rw (laid_last e.holds e.pick (lessons p r m f t s e) (stopped_zero p r m f t s e) l) at l.route

  -- THE DATA ARE SOUND again.
  pub stopped_fit : Fit w h goal cell (improved w h p t s)
  unfolding improved
  stopped_fit = record {
    ground = f.ground;
    cart = f.cart;
    learned = stopped_small p r m f t s e;
    zero_there = stopped_zero p r m f t s e;
    close = consistent_close w h p.ground (learned_after w h p t s) r.wide (stopped_consistent p r m f t s e);
    links = laying.all;
  }

  pub stopped_room : Room (cells w h) (improved w h p t s)
  unfolding improved
  stopped_room = record { grounds = m.grounds; learneds = simp length_filled m.learneds; links = laying.long }
