pub mod Braid
pub mod Action
pub mod FixedPoints
pub mod Fault
pub use Rattle.quandle_core.specs.Quandle
pub use Rattle.quandle_core.specs.Bijection
