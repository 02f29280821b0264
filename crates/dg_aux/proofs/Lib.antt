pub mod Told
pub mod Sorted
pub mod TurnLaws
pub mod FoundNodes
pub mod Batches
pub mod Rows
