pub mod Failure
pub mod Blocks
pub mod Inputs
pub mod Search
pub mod SeekExit
