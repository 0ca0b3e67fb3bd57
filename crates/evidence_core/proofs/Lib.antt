pub mod FirstUnequal
pub mod LinksOfGrids
