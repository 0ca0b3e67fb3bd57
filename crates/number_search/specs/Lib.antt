pub mod Told
pub use Rattle.colour_seeds.specs.Plan
pub use Rattle.linking_core.specs.Component
pub use Rattle.linking_core.specs.Linking
pub use Rattle.number_check.specs.EvidenceHolds
pub use Rattle.number_check.specs.Ruling
pub use Rattle.grid_moves.specs.Joining
