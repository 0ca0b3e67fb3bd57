pub mod FirstFound
pub mod SameReach
pub mod SimplifiedPairs
mod Verdicts
pub mod AnswerKinds
