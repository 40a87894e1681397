-- Four bits spread over four bytes, and bytes that are copied.
pub mod Copied
pub mod SpreadBits
