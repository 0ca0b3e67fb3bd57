pub mod Earlier
pub mod EvidenceBehind
pub mod EvidenceFails
pub mod ShadowSays
pub mod WeighedFails
mod EvidenceAgain
mod EvidenceWords
mod PartTexts
mod ShadowAgain
pub mod ShadowSteady
mod ValueRows
mod WeighedBefore
mod WorkedRows
