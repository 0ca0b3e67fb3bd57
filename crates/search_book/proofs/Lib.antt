mod Waiting
mod LeftOver
mod Rest
mod Handing
pub mod Restaged
pub mod Histories
pub mod ClaimSound
mod Claimed
pub mod Taking
mod Sizes
pub mod ReachedEntries
pub mod RootEntries
pub mod EndedBooks
pub mod Lookups
mod TwoMaps
mod Indexes
mod Offering
pub mod Appended
mod SoundEntries
mod EntryLists
mod Growing
pub mod SettleCounts
pub mod SettleSound
pub mod BeginSound
mod Opened
pub mod Standing
mod Passing
mod AfterSettling
pub mod Recorded
mod WaysDown
mod SidesMet
