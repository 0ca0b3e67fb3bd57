pub mod Renaming
pub mod Correspond
pub mod Recoloured
