pub mod Accepted
pub mod AllTuples
