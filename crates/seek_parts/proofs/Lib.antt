mod Adding
pub mod NeverDone
