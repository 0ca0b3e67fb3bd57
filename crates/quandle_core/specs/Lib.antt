pub mod Quandle
pub mod Tables
pub mod Fault
pub mod QuandleCases
pub mod Columns
pub mod Colours
pub mod Bijection
pub mod Names
