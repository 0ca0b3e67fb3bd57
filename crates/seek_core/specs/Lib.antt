pub mod Formulas
pub mod Candidates
pub mod Pairs
pub mod Sizes
pub mod Found
pub mod Parts
pub mod Given
pub mod Answers
pub use Rattle.grid_moves.specs.Joining
pub use Rattle.knot_ports.specs.Faults
pub use Rattle.knot_ports.specs.Sink
pub use Rattle.verdict_core.specs.Diagrams
pub use Rattle.quandle_core.specs.Names
pub use Rattle.verdict_core.specs.Evidence
pub use Rattle.knot_text.specs.Printed
pub use Rattle.knot_text.specs.Shapes
pub use Rattle.pair_verdict.specs.Separates
pub use Rattle.verdict_laws.specs.VerdictDecision
pub use Rattle.text_items.specs.Reading
pub use Rattle.number_text.specs.BlockCocycles
pub use Rattle.certificates.specs.Printed as EvidenceTexts
pub use Rattle.certificates.specs.Said as SaidTexts
pub use Rattle.certificate_check.specs.Decision as Certified
pub use Rattle.number_search.specs.Told
