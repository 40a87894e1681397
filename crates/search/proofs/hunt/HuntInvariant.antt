-- A hunt is document 01's search, iteration by iteration: what is left to run is what was to be run.
-- Assumes nothing.
use mathlib.Core.Path.{◌≡◌, refl, sym, ◌∙◌}
use mathlib.Core.Logic.{◌≢◌}
use mathlib.Core.Bool.{Bool, true, false}
use mathlib.Core.List.{List}
use Prim.Native.Nat.{ℕ, ◌+◌, ◌-◌, ◌%◌, ◌≤◌, ◌<◌}
use native.Mathlib.Decide.{ℕ_discrete}
use native.Mathlib.Omega.{arith}
use Rattle.std.specs.Prelude.{Some, None}
use lib.ListN.{length, get_or, set, length-set}
use Rattle.model.specs.Plot.{max_cells, free}
use Rattle.model.specs.Head.{cells_of}
use Rattle.model.specs.Lent.{Lent, Scratch}
use Rattle.model.specs.Route.{leads_from}
use Rattle.model.specs.Search.{expanded, first, run}
use Rattle.model.specs.Plan.{searched, expanded_count}
use Rattle.model.specs.declared.Head.{Head}
use Rattle.walks.proofs.Pigeonhole.{fewest_below}
use Rattle.model.proofs.Calls.Acceptance.{accepts_held}
use Rattle.model.proofs.Search.SearchEnds.{start_holds, begun_none, begun_open}
use Rattle.model.specs.Fit as fit
use Rattle.model.proofs.Grid.Geometry.{adj_inside}
use Rattle.model.proofs.Search.Order.{Foremost, foremost_is_best, none_is_best}
use Rattle.model.proofs.Grid.RouteLaws.{leads_goal}
use Rattle.model.proofs.Search.SearchInvariant.{Holds, seen_free, expanded_below, goes_on, newly, one_more}
use Rattle.model.proofs.Grid.Views.{mark_on}
use Rattle.search.specs.Memory.{Gone, Testable}
use Rattle.search.specs.Hunt.{Huntable, Hunted}
use Rattle.search.specs.Listed.{Listed}
use Rattle.search.specs.Waiting.{Queued, Did}
use Rattle.search.proofs.hunt.FirstOfQueue.{queue_foremost, queue_empty}
use Rattle.search.proofs.hunt.OneIteration.{run_empty, run_halts, run_on}
use Rattle.search.proofs.hunt.ExpandedList.{list_on}

abbrev stops_at : Head → Lent → ℕ → Bool
stops_at head p = leads_from head.width head.height head.goal p

-- `count` cells are expanded
pub record Hunting (head : Head) (p : Lent) (s₀ : Scratch) (gone₀ list₀ : List ℕ) (count len : ℕ) (s : Scratch)
    (heap place gone list : List ℕ) : Type 0 where
  pub same : run head.width head.height p (stops_at head p) (cells_of head - count) s ≡ searched head p s₀
  pub counts : expanded_count (cells_of head) s.mark ≡ count
  pub holds : Holds head.width head.height head.cell p (stops_at head p) s
  pub queued : Queued (cells_of head) p.learned s len heap place
  pub listed : Listed (cells_of head) s.mark count list
  pub memory : Gone head.width head.height head.goal p.learned p.link gone
  pub gone_same : length gone ≡ length gone₀
  pub list_same : length list ≡ length list₀

module _ {head : Head} {p : Lent} {n : ℕ} {s₀ : Scratch} {heap₀ place₀ gone₀ list₀ : List ℕ} (u : Huntable head p n s₀ heap₀ place₀ gone₀ list₀) where
  pub accepted : fit.Held head p
  accepted = accepts_held head p u.accepted

  halts : stops_at head p head.goal ≡ true
  halts = leads_goal head.width head.height head.goal p.learned p.link _

  begins : Huntable head p (cells_of head) s₀ heap₀ place₀ gone₀ list₀
  begins = rw u.count at u

  pub hunt_begin : Hunting head p s₀ gone₀ list₀ 0 1 s₀ heap₀ place₀ gone₀ list₀
  unfolding searched
  hunt_begin =
      let t = accepted.placed in
      record {
        same =
            let q : cells_of head - 0 ≡ cells_of head = omega arith in
            rw (begins.begins, q);
        counts = rw begins.begins at (begun_none head.width head.height head.cell p.ground s₀ begins.queued.sized t.cart_on);
        holds = rw begins.begins at (start_holds p (stops_at head p) t accepted.fit halts s₀ begins.queued.sized);
        queued = begins.queued;
        listed = record {
          inside = λ i l. absurd (omega arith);
          marked = λ i l. absurd (omega arith);
          each_one =
              λ x i m. absurd
              ((rw begins.begins at
              (begun_open head.width head.height head.cell p.ground s₀ begins.queued.sized t.cart_on x i)) m);
        };
        memory = u.memory;
        gone_same = refl;
        list_same = refl;
      }

  module _ {count len : ℕ} {s : Scratch} {heap place gone list : List ℕ}
      (a : Hunting head p s₀ gone₀ list₀ count len s heap place gone list) where
    values : (y : ℕ) → y < cells_of head → get_or p.learned y 0 ≤ 65535
    values y i = omega (arith, accepted.fit.learned y i, accepted.placed.few)

    -- a waiting cell is one step behind an expanded one, so its cost is small
    near : (y : ℕ) → y < cells_of head → get_or s.mark y 0 ≡ 1 → get_or s.cost y 0 ≤ cells_of head
    near y i m = go (ℕ_discrete y head.cell)
      where
        go : Dec (y ≡ head.cell) → get_or s.cost y 0 ≤ cells_of head
        go (yes e) = rw e (omega (arith, a.holds.origin))
        go (no d) =
            let r = a.holds.reached y (omega (arith, mark_on (cells_of head) s.mark y i)) d in
            omega (arith, r.dearer, fewest_below adj_inside accepted.placed.cart_on (a.holds.fewest r.prev r.expanded))

    costs : (y : ℕ) → y < cells_of head → get_or s.mark y 0 ≡ 1 → get_or s.cost y 0 ≤ 65535
    costs y i m = omega (arith, near y i m, accepted.placed.few)

    pub iterations_left : count < cells_of head
    iterations_left =
        omega (arith, a.counts, expanded_below p (stops_at head p) accepted.placed accepted.fit halts s a.holds a.queued.sized)

    list_long : cells_of head ≤ length list
    list_long = omega (arith, a.list_same, begins.space.lists)

    pub hunt_empty : len ≡ 0 → Hunted head p n s₀ None count s list
    hunt_empty e = rw u.count (record {
      ends =
          sym a.same
          ∙ run_empty head.width head.height p (stops_at head p) s (cells_of head - count) (omega (arith, iterations_left))
          (none_is_best (cells_of head) p.learned s (queue_empty a.queued costs values e));
      counts = a.counts;
      listed = a.listed;
      sized = a.queued.sized;
      lists = list_long;
      within = tt;
      near = tt;
    })

    module _ (x : ℕ) (some : len ≢ 0) (e : x ≡ get_or heap 1 0 % 65536) where
      taken : Foremost p.learned s (cells_of head) x
      taken = queue_foremost a.queued costs values x (omega (arith, some)) e

      is_first : first head.width head.height p s ≡ x
      is_first = foremost_is_best (cells_of head) p.learned s x taken

      pub taken_on : x < cells_of head
      taken_on = taken.below

      pub taken_free : free p.ground x ≡ true
      taken_free =
          seen_free p (stops_at head p) accepted.placed accepted.fit halts s a.holds a.queued.sized x
          (omega (arith, mark_on (cells_of head) s.mark x taken.below, taken.waiting))

      pub hunt_halts : stops_at head p x ≡ true → Hunted head p n s₀ (Some x) count s list
      hunt_halts b = rw u.count (record {
        ends =
            sym a.same
            ∙ run_halts head.width head.height p (stops_at head p) s (cells_of head - count) (omega (arith, iterations_left)) x is_first
            taken.below b;
        counts = a.counts;
        listed = a.listed;
        sized = a.queued.sized;
        lists = list_long;
        within = taken.below;
        near = near x taken.below taken.waiting;
      })

      pub hunt_on : (len' : ℕ) (s' : Scratch) (heap' place' gone' : List ℕ) → stops_at head p x ≡ false
          → Did (cells_of head) p.learned (expanded head.width head.height p.ground x s) s' len' heap' place'
          → Gone head.width head.height head.goal p.learned p.link gone'
          → length gone' ≡ length gone
          → Hunting head p s₀ gone₀ list₀ (count + 1) len' s' heap' place' gone' (set list count x)
      hunt_on len' s' heap' place' gone' b d g same =
          let q = d.is in
          let on = run_on head.width head.height p (stops_at head p) s (cells_of head - count) (omega (arith, iterations_left)) x is_first
          taken.below b in
          let less : cells_of head - (count + 1) ≡ cells_of head - count - 1 = omega arith in
          record {
            same = rw (q, less) (sym on ∙ a.same);
            counts =
                rw q (omega (
                  arith,
                  one_more p (stops_at head p) accepted.placed accepted.fit halts s a.holds a.queued.sized x taken b,
                  a.counts,
                ));
            holds = rw q (goes_on p (stops_at head p) accepted.placed accepted.fit halts s a.holds a.queued.sized x taken b);
            queued = d.queued;
            listed =
                rw q (list_on a.listed taken.below (omega (arith, iterations_left, a.list_same, begins.space.lists))
                (newly p (stops_at head p) accepted.placed accepted.fit halts s a.holds a.queued.sized x taken b));
            memory = g;
            gone_same = same ∙ a.gone_same;
            list_same = length-set list count x ∙ a.list_same;
          }

    -- what the stop test asks
    pub testable : {x : ℕ} → x < cells_of head → Testable head.width head.height (cells_of head) x p.learned p.link gone
    testable {x} i = record {
      walk = record { sides = accepted.placed.sides; inside = i; learneds = accepted.room.learneds; links = accepted.room.links };
      count = refl;
      gones = omega (arith, a.gone_same, begins.space.gones);
    }

    pub count_few : count < max_cells
    count_few = omega (arith, iterations_left, accepted.placed.few)

    pub list_room : count < length list
    list_room = omega (arith, iterations_left, a.list_same, begins.space.lists)
