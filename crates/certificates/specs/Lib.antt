pub mod Lines
pub mod Printed
pub mod Said
pub mod Shadows
pub use Rattle.text_lines.specs.Lines as TextLines
pub use Rattle.text_lines.specs.Spelled
pub use Rattle.cocycle_core.specs.ShadowCocycle
pub use Rattle.cocycle_core.specs.Formula
pub use Rattle.number_text.specs.Shadows as ShadowItems
pub use Rattle.verdict_text.specs.Problems
pub use Rattle.knot_text.specs.Shapes
pub use Rattle.knot_text.specs.Weights
pub use Rattle.knot_text.specs.FirstBadLine
pub use Rattle.number_text.specs.EvidenceItems
pub use Rattle.number_text.specs.Weighed
pub use Rattle.number_text.specs.Said as ReadSaid
