pub mod FirstDifference
pub mod ToldApart
pub mod ListCauses
pub mod Rulings
