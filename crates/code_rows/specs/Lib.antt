pub mod JoinedEdges
pub mod CodeMap
pub mod CodeFault
pub mod Chains
pub mod Rows
pub mod RowsFault
pub mod Refused
pub mod RowSigns
