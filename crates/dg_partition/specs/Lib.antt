pub mod Owners
pub mod Cuts
pub mod HistoryParts
pub mod PartRanges
pub mod PartLaws
