-- What a search begins with.
pub mod BeginLaws
