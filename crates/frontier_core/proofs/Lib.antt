pub mod Absent
mod Chains
mod Empty
pub mod Orders
mod Lists
mod Pigeonhole
mod Pushing
mod Rows
mod Runs
mod Popping
