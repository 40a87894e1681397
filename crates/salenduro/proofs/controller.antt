-- The calls over a record: what is read, what each call does with it, and the record written again.
pub mod MoveOverRecord
pub mod PlanOverRecord
pub mod RecordRead
pub mod ReportOverRecord
pub mod RecordRewritten
