pub mod Causes
pub mod Rulings
