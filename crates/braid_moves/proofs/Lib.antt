pub mod Relations
pub mod Same
pub mod Turned
pub mod Steps
pub mod Listings
pub mod Ruled
mod WorkedRows
mod FaultKinds
