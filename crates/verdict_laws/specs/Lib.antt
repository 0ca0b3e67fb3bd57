pub mod VerdictDecision
pub use Rattle.grid_moves.specs.Joining
pub use Rattle.verdict_core.specs.Diagrams
pub use Rattle.verdict_core.specs.Evidence
pub use Rattle.quandle_core.specs.Names
pub use Rattle.knot_text.specs.Printed
pub use Rattle.knot_text.specs.Shapes
pub use Rattle.cert_check.specs.Ruling
pub use Rattle.cert_check.specs.Cause
pub use Rattle.colour_numbers.specs.Numbers
pub use Rattle.grid_core.specs.Diagram
pub use Rattle.number_check.specs.EvidenceHolds
pub use Rattle.number_check.specs.Ruling as NumberRuling
pub use Rattle.quandle_core.specs.Quandle
pub use Rattle.table_check.specs.Ruling as TableRuling
