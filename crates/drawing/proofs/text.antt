-- The text of a drawing, written part by part.
pub mod TextWritten
