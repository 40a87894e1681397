-- The flat tests say what document 01's soundness says.
pub mod RowEnds
pub mod PassesGiven
pub mod FlatTests
pub mod FlatIsSound
