-- Move's answer in each of its cases.
pub mod MoveCases
