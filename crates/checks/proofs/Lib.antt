-- One number serves refusal 2 for many buffers, and one serves refusal 3 for many cells.
pub mod SharedTests
