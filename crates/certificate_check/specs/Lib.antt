pub mod Decision
pub use Rattle.grid_moves.specs.Joining
pub use Rattle.verdict_core.specs.Diagrams
pub use Rattle.verdict_core.specs.Evidence
pub use Rattle.knot_text.specs.Shapes
pub use Rattle.number_text.specs.BlockCocycles
pub use Rattle.number_text.specs.Said
pub use Rattle.certificates.specs.Printed
pub use Rattle.certificates.specs.Said as SaidTexts
pub use Rattle.number_check.specs.EvidenceHolds
pub use Rattle.number_check.specs.Ruling
pub use Rattle.check_job.specs.CertificateTruth
pub use Rattle.verdict_laws.specs.VerdictDecision
