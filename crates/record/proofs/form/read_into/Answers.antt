-- `record::form::read_into` meets its contract: each buffer is read out of its part. Assumes nothing.
use Rattle.record.proofs.form.PartsRead.{read_by}
use Rattle.record.proofs.form.read_into.Goals as goal

pub returns : goal.returns
returns c =
    read_by _ _ _ _ _ _ c.learned_at-at_learned.ensures c.link_at-at_link.ensures
    c.read_ground.ensures c.read_learned.ensures
    c.read_links.ensures
