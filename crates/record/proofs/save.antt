-- A front that grows, bits packed one by one and eight at a time, a field written, and save's cases.
pub mod GrowingFront
pub mod BitByBit
pub mod FieldWritten
pub mod SaveCases
pub mod EightBits
pub mod LearnedFront
