pub mod WholeEntries
pub mod TakenLines
