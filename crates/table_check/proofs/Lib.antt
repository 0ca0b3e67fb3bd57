mod EachBlock
pub mod Below
pub mod Causes
pub mod Claims
