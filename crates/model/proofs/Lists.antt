-- Bools: tests joined by and, or and not.
pub mod Bools
-- Choices: two numbers are equal or not; one is at most the other or above it.
pub mod Choices
-- Filled: tests, counts and filled lists over the numbers below n.
pub mod Filled
-- FillLoop: a loop that fills a list entry by entry.
pub mod FillLoop
-- Scans: a loop `ok = ok & test`.
pub mod Scans
-- Gathered: parts put one after the other.
pub mod Gathered
-- Fronted: a buffer with another front; two fronts that are the same.
pub mod Fronted
-- Bits: a sum of bits has those bits.
pub mod Bits
