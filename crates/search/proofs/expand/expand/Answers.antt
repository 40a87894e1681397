-- `search::expand::expand` meets its contract. The loop keeps what the directions so far have made of scratch (`LookLaws`). Assumes nothing.
use Rattle.grid.proofs.CellLaws.{some_on}
use Rattle.search.proofs.SameLists.{scratch_begins, queue_begins, scratch_still, queue_still}
use Rattle.search.proofs.expand.LookLaws.{queued_out, looks_begin, looks_on, looks_off, looks_done}
use mathlib.Core.Path.{refl}
use native.Mathlib.Omega.{arith}
use Rattle.search.proofs.expand.expand.Goals as goal
use Rattle.search.proofs.expand.expand.Goals.{in-Some, in_default}

pub loop-d-init : goal.loop-d-init
loop-d-init c =
    let r = c.requires in
    let kept = c.pop.ensures.same in (
      rw (kept.cells, c.pop.ensures.waiting)
          (looks_begin c.args.plot r.sides (queued_out c.args.x _ _ r.agree r.first.0 r.first.1 c.pop.ensures.keys)),
      scratch_begins _,
      queue_begins _,
    )

pub look_at-requires-clause-inside : goal.look_at-requires-clause-inside
look_at-requires-clause-inside c =
    let a = c.loop-d.invariant.0 in
    (omega (arith, a.count, (some_on c.in-Some.ensures).inside), omega (arith, a.count, c.requires.stands.0))

pub loop-d-preserved : goal.loop-d-preserved
loop-d-preserved c =
    let free = c.requires.stands.1 in
    let a = c.loop-d.invariant in
    elim c.match-ahead.branch [
      | in-Some w ↦
          let kept = w.look_at.ensures.same in
          rw (w.scratch-is, w.queue-is) (
            rw kept.1.cells (looks_on c.args.plot a.0 c.loop-d.auto.d free _ refl _ _ _ _ _ w.in-Some.ensures (rw kept.1.cells at w.look_at.ensures.looked)),
            scratch_still a.1 kept.0,
            queue_still a.2 kept.1,
          )
      | in_default w ↦
          rw (w.scratch-is, w.queue-is) (looks_off c.args.plot a.0 c.loop-d.auto.d free _ refl w.in_default.ensures, a.1, a.2)
    ]

pub returns-clause-expanded : goal.returns-clause-expanded
returns-clause-expanded c = looks_done c.args.plot _ c.loop-d.invariant.0 (omega arith)
