pub mod Held
pub mod Order
pub mod Run
pub mod Chain
