-- What the core of plan is handed, and the learned values that it raises.
pub mod Passed
pub mod Raised
