-- Soundness: the test of soundness says what `Fit` says.
pub mod Soundness
-- Acceptance: accepted data are placed, have room and fit.
pub mod Acceptance
-- ReasonNumbers: a reason is known by its number.
pub mod ReasonNumbers
-- FirstEntries: soundness reads the first N entries alone.
pub mod FirstEntries
-- LayoutLaws: what layout leaves is accepted.
pub mod LayoutLaws
-- ReportLaws: a report keeps the data sound.
pub mod ReportLaws
-- ReportsCommute: two reports leave the same lists in either order.
pub mod ReportsCommute
-- PlanCases: plan's tests, and its four cases.
pub mod PlanCases
-- PlanAnswers: plan's answer is true, and a true answer is the one given.
pub mod PlanAnswers
-- PlanKeeps: what plan leaves is accepted, and no learned value falls.
pub mod PlanKeeps
-- MoveLaws: a move brings the cart one step nearer.
pub mod MoveLaws
-- ListLaws: list's front is the route.
pub mod ListLaws
-- OneResult: two results that one contract allows are one.
pub mod OneResult
-- BeyondN, PlanBeyondN: no call touches an entry from N on.
pub mod BeyondN
pub mod PlanBeyondN
