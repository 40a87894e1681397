-- What is written, the form field by field, what is read of each cell, and load's tests.
pub mod Written
pub mod Form
pub mod Cells
pub mod Load
pub mod Tags
