pub mod RowTexts
pub mod RowKinds
pub mod DirectoryParts
pub mod NewNames
pub mod Directories
pub mod PackedRecords
pub mod SegmentParts
