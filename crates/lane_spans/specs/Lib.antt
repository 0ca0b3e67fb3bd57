pub mod Span
pub mod Columns
pub mod Partial
