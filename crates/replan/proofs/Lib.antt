-- Plan's three cases once its tests have passed.
pub mod ReplanCases
