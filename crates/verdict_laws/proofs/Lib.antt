pub mod Grids
pub mod PrintedVerdicts
pub mod AcceptedBehind
pub mod HeldVerdicts
mod WorkedDecisions
pub mod WorkedRulings
pub mod OneRuling
pub mod SeedWays
pub mod SomeRuling
pub mod OneTableRuling
pub mod SomeTableRuling
