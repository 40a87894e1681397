-- The head array, and each call over a host's buffers.
pub mod Heads
pub mod Buffers
