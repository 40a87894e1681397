-- Load's tests are document 01's, and its cases.
pub mod LoadTests
pub mod LoadCases
