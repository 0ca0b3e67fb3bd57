pub mod Walk
pub mod Colouring
pub mod Equation
pub mod Spans
pub use Rattle.grid_core.specs.Diagram
pub use Rattle.grid_core.specs.Parts
pub use Rattle.quandle_core.specs.Quandle
pub use Rattle.lane_spans.specs.Columns
