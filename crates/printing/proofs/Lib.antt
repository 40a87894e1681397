-- Text put behind text, and numbers as the library writes them.
pub mod Appended
pub mod Decimal
