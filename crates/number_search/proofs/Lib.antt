mod CopiedValues
pub mod Held
mod WorkedRows
