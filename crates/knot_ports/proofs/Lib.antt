pub mod FaultLemmas
mod Fronts
mod Takings
