pub mod BlocksSay
pub mod LinkingBounds
pub mod HeldTexts
pub mod Decisions
