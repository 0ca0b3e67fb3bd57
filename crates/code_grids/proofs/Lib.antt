pub mod Undone
pub mod Renamed
pub mod Naming
pub mod Rearranged
pub mod Recolouring
pub mod Composed
mod WorkedRows
