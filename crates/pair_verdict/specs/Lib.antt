pub mod Separates
pub mod Searched
pub mod Decided
pub use Rattle.search_pool.specs.Finding
pub use Rattle.mono_simplify.specs.Simplified
pub use Rattle.next_moves.specs.Reach
pub use Rattle.verdict_core.specs.Evidence
