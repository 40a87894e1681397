-- Geometry: a step is one of four, stays on the plot, and goes back by the opposite direction.
pub mod Geometry
-- Manhattan: the Manhattan distance changes by at most 1 along a step.
pub mod Manhattan
-- Views: lists as the theory of walks reads them.
pub mod Views
-- RouteLaws: that links lead to the goal is the theory's route.
pub mod RouteLaws
