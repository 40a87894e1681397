-- `calls::report::unlink` meets its contract: before each iteration the links in the directions before `d` are cut, and in all four they are
-- the links once the cell is blocked (`CutLinks`). Assumes nothing.
use Prim.Native.Nat.{◌-◌}
use Rattle.calls.proofs.report.CutLinks.{Cut}
use Rattle.calls.proofs.report.unlink.Given as goal

abbrev pub invariant-loop-d : goal.invariant-loop-d
invariant-loop-d l = Cut l.plot.width l.plot.height l.c (l.d - 1) l.initial.link l.link
