pub mod Adding
pub mod Picked
pub mod Tried
pub mod RightTrefoil
pub mod Walked
pub mod Bottoms
pub mod Printed
pub mod SameText
mod WorkedRows
mod Decisions
mod LeastTexts
mod PrintedVerdicts
mod ReadProblems
