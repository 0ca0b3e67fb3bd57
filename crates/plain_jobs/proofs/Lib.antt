mod WorkedAnswers
mod Listed
mod InOrder
mod FeetListed
mod Compared
mod EquallyMany
mod Along
mod Grids
mod TableGrids
mod TableFails
mod NumbersFail
mod CodeFails
pub mod Replies
