-- RecordFields: what stands where in a record, and what reading gives back.
pub mod RecordFields
-- RecordLaws: what save writes load reads back, and a state has one record.
pub mod RecordLaws
-- SaveAndLoad: save and load as calls.
pub mod SaveAndLoad
-- ControllerLaws: the calls over a record.
pub mod ControllerLaws
