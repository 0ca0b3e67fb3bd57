mod ShortNumbers
mod NumbersOfDigits
mod DigitLists
mod Guards
mod CutNumbers
mod ShortGrids
mod LowColumns
mod ShortKeys
mod SpreadHalves
mod SwappedDigits
mod Placed
mod CountedEnds
pub mod MarkedTrades
mod ShortPairs
pub mod Tidied
mod TidiedRuns
pub mod Making
mod WorkedRows
