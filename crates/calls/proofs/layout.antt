-- The distances, row by row.
pub mod RowDistances
