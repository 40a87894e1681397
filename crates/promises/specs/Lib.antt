-- What the demands are stated over: every call with its input, the rows of the table of refusals, and lists of a cart's calls.
pub mod Asking
pub mod Table
pub mod Using
