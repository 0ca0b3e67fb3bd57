pub mod Listing
pub mod Fits
pub mod Level
pub use Rattle.grid_core.specs.Diagram
pub use Rattle.grid_core.specs.Parts
pub use Rattle.quandle_core.specs.Quandle
pub use Rattle.colour_rows.specs.Walk
pub use Rattle.colour_rows.specs.Colouring
