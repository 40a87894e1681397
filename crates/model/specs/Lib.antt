-- Document 01 as definitions that compute, in its order; contracts cite them. `Lists` is the vocabulary of loops; `Ways` is what
-- the demands speak of, and `Fit` what the tests of a call say, cell by cell.
pub mod Lists
pub mod Plot
pub mod Head
pub mod Lent
pub mod Verdict
pub mod Sound
pub mod Route
pub mod Layout
pub mod Report
pub mod Search
pub mod Plan
pub mod Move
pub mod Listing
pub mod Store
pub mod Refusals
pub mod Numbers
pub mod Record
pub mod Controller
pub mod Examples
pub mod Shortcuts
pub mod Edges
pub mod Ways
pub mod Fit
