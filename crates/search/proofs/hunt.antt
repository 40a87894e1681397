-- The loop: the first of the queue, one iteration, the list of expanded cells, and the invariant.
pub mod FirstOfQueue
pub mod OneIteration
pub mod ExpandedList
pub mod HuntInvariant
