-- What the tests share, what is left to ask of accepted data, what the soundness test is given, and its flat tests.
pub mod SharedTests
pub mod Rest
pub mod Given
pub mod Flat
pub mod Passes
