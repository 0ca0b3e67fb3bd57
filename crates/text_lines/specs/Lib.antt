pub mod Tokens
pub mod Lines
pub mod NumberTokens
pub mod Spelled
pub mod Appended
pub mod Cut
