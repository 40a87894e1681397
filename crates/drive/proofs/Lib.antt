-- The loop of the program.
pub mod DriveLoop
