pub mod Moves
pub mod Cocycles
pub mod Diagrams
pub mod Verdicts
pub mod Problems
pub use Rattle.text_items.specs.Reading
pub use Rattle.text_items.specs.Quandles
pub use Rattle.text_items.specs.Numbers
pub use Rattle.cocycle_core.specs.Cocycle
pub use Rattle.cocycle_core.specs.Fault
pub use Rattle.text_lines.specs.Lines
pub use Rattle.verdict_core.specs.Diagrams as Given
