pub mod Ranges
pub mod Turning
pub mod Walks
pub mod ListedSpans
pub mod Equations
pub mod Colourings
