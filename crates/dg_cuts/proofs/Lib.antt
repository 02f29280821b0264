pub mod WholeLines
pub mod WholeEntriesFront
pub mod TakenLines
pub mod TakenEntries
pub mod Rows
