-- `calls::list::follow` meets its contract: before each iteration the buffer holds the cells that the walk has left (`RouteWritten`). Assumes
-- nothing.
use Rattle.calls.proofs.list.RouteWritten.{Writing}
use Rattle.calls.proofs.list.follow.Given as goal

abbrev pub invariant-loop-i : goal.invariant-loop-i
invariant-loop-i l = Writing l.plot.width l.plot.height l.link l.v l.c l.initial.buffer l.i l.at l.buffer
