pub use Rattle.cocycle_core.specs.CocycleCases
pub use Rattle.cocycle_core.specs.Cocycle
pub use Rattle.cocycle_core.specs.Fault as CocycleFault
pub use Rattle.colour_list.specs.Listing
pub use Rattle.colour_rows.specs.Colouring
pub use Rattle.colour_rows.specs.Equation
pub use Rattle.colour_rows.specs.Spans
pub use Rattle.colour_rows.specs.Walk
pub use Rattle.grid_core.specs.Diagram
pub use Rattle.grid_core.specs.Parts
pub use Rattle.lane_spans.specs.Columns
pub use Rattle.quandle_core.specs.QuandleCases
pub use Rattle.quandle_core.specs.Colours
pub use Rattle.quandle_core.specs.Fault as QuandleFault
pub use Rattle.quandle_core.specs.Quandle
pub use Rattle.quandle_core.specs.Tables
