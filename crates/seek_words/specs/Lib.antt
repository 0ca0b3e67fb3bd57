pub mod Words
pub mod Matched
pub use Rattle.knot_words.specs.OptionNumbers
