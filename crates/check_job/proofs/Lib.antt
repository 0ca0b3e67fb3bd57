mod Endings
pub mod Read
