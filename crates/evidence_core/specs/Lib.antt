pub mod Unequal
pub mod Links
pub use Rattle.linking_core.specs.Linking
pub use Rattle.linking_core.specs.Component
pub use Rattle.grid_moves.specs.Joining
