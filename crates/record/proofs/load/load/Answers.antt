-- `record::load::load` meets its contract: refused, or what is read. Assumes nothing.
use native.Mathlib.Omega.{arith}
use Rattle.record.proofs.load.LoadCases.{load_refused, load_passed, load_done}
use Rattle.record.proofs.load.load.Goals as goal

pub overflow_mul-n : goal.overflow_mul-n
overflow_mul-n c = omega (arith, (load_passed _ _ c.load_answer.ensures c.in-Ok.is).few)

pub read_into-requires : goal.read_into-requires
read_into-requires c =
    let t = load_passed _ _ c.load_answer.ensures c.in-Ok.is in
    let r = t.room in
    (t.few, t.long, record { grounds = omega (arith, r.grounds, r.links); learneds = r.learneds; links = omega (arith, r.grounds, r.links) })

pub returns-in-Ok : goal.returns-in-Ok
returns-in-Ok c = load_done _ _ c.load_answer.ensures c.in-Ok.is c.read_into.ensures

pub returns-in-Err : goal.returns-in-Err
returns-in-Err c = rw c.none.ensures (load_refused _ _ c.load_answer.ensures c.in-Err.is)
