-- A drawing, its text, and what its reader answers.
pub mod Drawing
pub mod Reading
