-- What callers show before links are followed, a cell of the plot where there is one, and one step along a link.
pub mod Walkable
pub mod CellOn
pub mod Descent
