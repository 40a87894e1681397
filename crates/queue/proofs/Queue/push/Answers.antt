-- `queue::Queue::push` meets its contract: the gap is one past the last entry. Assumes nothing.
use Rattle.queue.proofs.QueueChanges.{push_rising}
use Rattle.queue.proofs.Queue.push.Goals as goal

pub rise-requires : goal.rise-requires
rise-requires c = push_rising c.requires
