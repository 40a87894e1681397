-- A turn of the drive, what is held for it, what a sighting asks for, and what document 01's example is computed of.
pub mod Turn
pub mod Held
pub mod Sighting
pub mod Example
