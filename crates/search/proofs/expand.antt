-- A look at a cell, and four looks as an expansion.
pub mod LookLaws
