pub mod Positions
pub mod Places
pub mod Stages
pub mod Grids
pub mod Built
