-- A gap in the heap, how it rises and sinks, what a change leaves, the least key, and the order of keys.
pub mod Gaps
pub mod GapRises
pub mod GapSinks
pub mod QueueChanges
pub mod LeastKey
pub mod KeyOrder
