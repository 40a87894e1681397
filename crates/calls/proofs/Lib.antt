-- Every call: its refused case, its accepted case, and that two results of its contract are one.
pub mod OneResult
pub mod RefusedCases
pub mod AcceptedCases
