pub mod Translated
pub mod Ordered
pub mod LeastTranslates
pub mod NumbersTo
pub mod Numbers
pub mod Words
mod DigitsOnTop
pub mod Keys
pub mod Briefs
pub mod Joined
pub mod CanonicalForms
pub mod PutShifts
