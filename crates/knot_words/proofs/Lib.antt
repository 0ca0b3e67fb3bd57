mod OptionReads
mod KnotReads
mod WorkedWords
pub mod AskedOnce
