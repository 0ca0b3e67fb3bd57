mod Masks
mod Lanes
mod Rows
