-- The calls over buffers: their cases, the number of a refusal, and what a refusal leaves.
pub mod BufferCases
pub mod ListCases
pub mod RefusalNumbers
pub mod RefusalLeaves
