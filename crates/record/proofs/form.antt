-- A part that begins with a field, its bytes, and that the tests are document 01's form.
pub mod FieldParts
pub mod FieldBodies
pub mod ByteOfBits
pub mod PartsRead
pub mod FormIs
pub mod FormCases
