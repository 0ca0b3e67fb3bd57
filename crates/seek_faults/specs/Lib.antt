pub mod Alone
pub use Rattle.text_lines.specs.Lines
