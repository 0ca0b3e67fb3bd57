pub mod Monotonic
pub mod Moved
pub mod Keys
pub mod Listed
pub mod Complete
pub mod Lookups
pub mod Explored
pub mod Ways
pub mod Simpler
pub mod Once
mod WorkedRows
pub mod KeyOrder
pub mod Seen
pub mod MemberWays
pub mod LeastClass
mod WorkedLeast
