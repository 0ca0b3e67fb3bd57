pub mod Input
pub mod Answer
pub mod CertificateTruth
pub mod Ports
pub mod Ending
pub mod Delivered
pub mod CheckExit
pub use Rattle.number_text.specs.Said
pub use Rattle.reply_text.specs.Lines
pub use Rattle.reply_text.specs.Reply
pub use Rattle.knot_ports.specs.Change
pub use Rattle.grid_moves.specs.Joining
pub use Rattle.verdict_core.specs.Diagrams
pub use Rattle.verdict_text.specs.Problems
pub use Rattle.number_text.specs.EvidenceItems
pub use Rattle.number_check.specs.EvidenceHolds
pub use Rattle.number_check.specs.Ruling as NumberRuling
pub use Rattle.cert_check.specs.Ruling
pub use Rattle.table_check.specs.Tables
pub use Rattle.table_check.specs.TableHolds
pub use Rattle.table_check.specs.Ruling as TableRuling
pub use Rattle.table_check.specs.Answer as TableAnswer
pub use Rattle.table_check.specs.Lines as TableLines
