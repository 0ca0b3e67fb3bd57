pub mod Told
pub use Rattle.knot_ports.specs.Status
pub use Rattle.knot_words.specs.Words
