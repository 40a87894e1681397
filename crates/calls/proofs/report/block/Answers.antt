-- `calls::report::block` meets its contract: the cell was free, or known blocked, and each is a case of `reported` (`AcceptedCases`). Assumes
-- nothing.
use Rattle.calls.proofs.AcceptedCases.{report_free, report_known}
use Rattle.model.proofs.Calls.ReportLaws.{report_passed}
use native.Mathlib.Omega.{arith}
use Rattle.calls.proofs.report.block.Goals as goal

pub bounds-ground-c : goal.bounds-ground-c
bounds-ground-c c = omega (arith, (report_passed _ _ _ c.requires).0.room.grounds, (report_passed _ _ _ c.requires).1)

pub bounds-ground-c-then-ground-c-eq0 : goal.bounds-ground-c-then-ground-c-eq0
bounds-ground-c-then-ground-c-eq0 c = omega (arith, (report_passed _ _ _ c.requires).0.room.grounds, (report_passed _ _ _ c.requires).1)

pub new-requires : goal.new-requires
new-requires c = (report_passed _ _ _ c.requires).0.placed.sides

pub unlink-requires : goal.unlink-requires
unlink-requires c =
    let a = report_passed _ _ _ c.requires in
    let s = c.new.ensures.sides in
    (rw (c.new.result.product, s.0, s.1) a.1, rw (c.new.result.product, s.0, s.1) a.0.room.links)

pub returns-then-ground-c-eq0 : goal.returns-then-ground-c-eq0
returns-then-ground-c-eq0 c =
    let s = c.new.ensures.sides in
    report_free _ _ _ c.requires _ c.if-ground-c-eq0.true (rw (s.0, s.1) at c.unlink.ensures)

pub returns-else-ground-c-eq0 : goal.returns-else-ground-c-eq0
returns-else-ground-c-eq0 c = report_known _ _ _ c.requires c.if-ground-c-eq0.false
