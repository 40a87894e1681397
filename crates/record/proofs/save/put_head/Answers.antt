-- `record::save::put_head` meets its contract: each field is written into the part behind the one before it (`SaveCases`). Assumes nothing.
use Rattle.record.proofs.save.SaveCases.{head_done}
use Rattle.record.proofs.save.put_head.Goals as goal

pub returns : goal.returns
returns c =
    head_done _ c.args.buffer.now _ _ _ _ c.put_field.ensures
    c.put_field-2.ensures c.put_big.ensures c.put_big-2.ensures
