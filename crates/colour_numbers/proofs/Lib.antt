mod Lanes
mod Tallying
mod StrandTallies
mod ShadowTallies
pub mod SameNumbers
