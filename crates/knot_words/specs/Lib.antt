pub mod OptionNumbers
pub mod Limits
pub mod Words
pub mod Matched
