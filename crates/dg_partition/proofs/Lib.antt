mod PartRows
pub mod PartReplays
pub mod PartChanges
pub mod PartCuts
pub mod PartLegality
pub mod PartUnions
pub mod PartWhole
pub mod PartRanges
