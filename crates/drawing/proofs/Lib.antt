-- A number read digit by digit, the reader's answers, and that every fine drawing's text reads back.
pub mod NumberRead
pub mod ReadCases
pub mod TextReadsBack
