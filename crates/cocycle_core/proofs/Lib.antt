pub mod Mod
pub mod ShadowAccepted
pub mod Congruent
pub mod Computed
pub mod Factors
pub mod FormulaLaw
pub mod Reflections
pub mod Powers
mod WorkedRows
pub mod Accepted
