-- The three demands, and what they rest on: tests are rows, each call's verdict, how each call ends; then the same over records.
pub mod TestsAreRows
pub mod VerdictRows
pub mod CallEndings
pub mod DemandOne
pub mod DemandTwo
pub mod DemandThree
pub mod OverRecords
pub mod RecordReports
