pub mod Counted
pub mod Faults
pub mod PartNumbers
pub mod Parts
pub mod Ends
pub mod OtherEnds
pub mod Pairs
pub mod InRange
pub mod Unsigned
pub mod AllJoined
mod Signed
mod Joining
mod Tied
mod Best
mod WorkedFaults
mod WorkedRows
