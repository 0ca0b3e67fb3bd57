pub mod Lines
pub mod Reply
pub use Rattle.text_lines.specs.Spelled
