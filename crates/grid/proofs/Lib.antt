-- A walk along links, step by step.
pub mod LinkWalk
-- A cell of the plot where there is one.
pub mod CellLaws
-- Where a step leads.
pub mod StepLaws
