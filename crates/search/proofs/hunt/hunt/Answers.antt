-- `search::hunt::hunt` meets its contract: what is left to run is what was to be run (`HuntInvariant`).
-- Assumes nothing.
use Rattle.search.proofs.hunt.HuntInvariant.{accepted, hunt_begin, iterations_left, hunt_empty, taken_on, taken_free, hunt_halts, hunt_on, testable}
use Rattle.search.proofs.hunt.HuntInvariant.{count_few, list_room}
use Rattle.search.proofs.SameLists.{scratch_begins, queue_begins, scratch_still, queue_still}
use Rattle.search.proofs.hunt.hunt.Goals as goal
use mathlib.Core.Path.{◌≡◌, sym, ◌∙◌}
use native.Mathlib.Omega.{arith}

pub loop-queue-init : goal.loop-queue-init
loop-queue-init c = (
  rw c.requires.waiting (hunt_begin c.requires.huntable),
  scratch_begins _,
  queue_begins _,
)

pub new-plot-requires : goal.new-plot-requires
new-plot-requires c = (accepted c.requires.huntable).placed.sides

pub stops-requires-clause-testable : goal.stops-requires-clause-testable
stops-requires-clause-testable c =
    let e = c.new-plot.ensures in
    rw (e.cells, e.sides.0, e.sides.1)
    (testable c.requires.huntable c.loop-queue.invariant.0
    (taken_on c.requires.huntable c.loop-queue.invariant.0 _ c.loop-queue-test.true c.first-x.ensures))

pub returns-then-stops-clause-hunted : goal.returns-then-stops-clause-hunted
returns-then-stops-clause-hunted c =
    let e = c.new-plot.ensures.sides in
    hunt_halts c.requires.huntable c.loop-queue.invariant.0 _ c.loop-queue-test.true c.first-x.ensures
    (sym (rw (e.0, e.1) at c.stops.ensures.answer) ∙ c.if-stops.true)

pub expand-requires-clause-stands : goal.expand-requires-clause-stands
expand-requires-clause-stands c = (
  omega (arith, c.new-plot.ensures.cells, (accepted c.requires.huntable).room.grounds),
  taken_free c.requires.huntable c.loop-queue.invariant.0 _ c.loop-queue-test.true c.first-x.ensures,
)

pub offset_bounds-list-count : goal.offset_bounds-list-count
offset_bounds-list-count c = omega (arith, count_few c.requires.huntable c.loop-queue.invariant.0)

pub bounds-list-count : goal.bounds-list-count
bounds-list-count c = list_room c.requires.huntable c.loop-queue.invariant.0

pub overflow_add-count : goal.overflow_add-count
overflow_add-count c = omega (arith, count_few c.requires.huntable c.loop-queue.invariant.0)

pub loop-queue-smaller : goal.loop-queue-smaller
loop-queue-smaller c = omega (arith, iterations_left c.requires.huntable c.loop-queue.invariant.0, c.new-plot.ensures.cells)

pub loop-queue-preserved : goal.loop-queue-preserved
loop-queue-preserved c =
    let a = c.loop-queue.invariant in
    let e = c.new-plot.ensures.sides in
    let kept = c.expand.ensures.same in
    let same : c.expand.new.queue.cells ≡ c.args.queue.now.cells = kept.1.cells ∙ a.2.cells in (
      hunt_on c.requires.huntable a.0 _ c.loop-queue-test.true c.first-x.ensures _ _ _ _ _
          (sym (rw (e.0, e.1) at c.stops.ensures.answer) ∙ c.if-stops.false)
          (rw (same, c.requires.huntable.count, e.0, e.1) at c.expand.ensures.expanded)
          (rw (e.0, e.1) at c.stops.ensures.memory c.if-stops.false)
          (search c.stops.auto),
      scratch_still a.1 kept.0,
      queue_still a.2 kept.1,
    )

pub returns-clause-hunted : goal.returns-clause-hunted
returns-clause-hunted c = hunt_empty c.requires.huntable c.loop-queue.invariant.0 c.loop-queue-test.false
