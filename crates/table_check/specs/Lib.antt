pub mod Tables
pub mod TableHolds
pub mod Cause
pub mod Ruling
pub mod Lines
pub mod Answer
pub use Rattle.text_items.specs.Reading
pub use Rattle.text_lines.specs.Lines as TextLines
pub use Rattle.verdict_text.specs.Diagrams
pub use Rattle.verdict_text.specs.Moves
pub use Rattle.number_text.specs.NumberLines
pub use Rattle.number_text.specs.EvidenceItems
pub use Rattle.number_text.specs.Blocks
pub use Rattle.verdict_core.specs.Diagrams as Given
pub use Rattle.number_check.specs.EvidenceHolds as NumberHolds
pub use Rattle.number_check.specs.Cause as NumberCause
pub use Rattle.colour_seeds.specs.Settled
pub use Rattle.colour_seeds.specs.Seeded
pub use Rattle.grid_moves.specs.Joining
pub use Rattle.reply_text.specs.Lines as ReplyLines
pub use Rattle.reply_text.specs.Reply
