pub mod Turns
pub mod Values
pub mod Cuts
mod Keeping
pub mod GridLines
pub mod BraidLines
pub mod TableLines
pub mod TableLaws
pub mod Lists
