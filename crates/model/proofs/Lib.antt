-- The laws of the definitions, in six folders.
-- Lists: what holds of lists, loops and tests, whatever they are about.
pub mod Lists
-- Grid: steps, distances and routes on the plot.
pub mod Grid
-- Search: plan's search keeps the theory's invariant; and what a search leaves.
pub mod Search
-- Calls: soundness, the tests, and what each call answers and leaves.
pub mod Calls
-- Record: the record's bytes, save and load, and the calls over a record.
pub mod Record
-- Computed: document 01's worked examples, shortcuts and edges, by computation. No contract cites them.
pub mod Computed
