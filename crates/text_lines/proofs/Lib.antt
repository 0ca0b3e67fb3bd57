pub mod FirstLine
pub mod FirstPlace
pub mod FirstToken
pub mod Ends
pub mod Steps
pub mod Digits
pub mod LineTexts
pub mod Parts
