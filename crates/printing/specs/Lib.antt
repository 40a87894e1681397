-- Text put into lent bytes, and the lines of a drive.
pub mod Text
pub mod Pages
pub mod Lines
