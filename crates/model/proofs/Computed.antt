-- Examples: P1 to P11, one statement over one table.
pub mod Examples
-- Shortcuts: for each shortcut that looks right, a case in which it goes wrong.
pub mod Shortcuts
-- Edges: document 01's edges, and the order of the refusals.
pub mod Edges
