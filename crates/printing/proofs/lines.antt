-- Two numbers behind words, and that no line is longer than it may be.
pub mod PlanLine
pub mod LineShort
