-- The walk of a stop test.
pub mod StopWalk
