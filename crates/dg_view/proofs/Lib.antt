pub mod Rows
pub mod WalkSearches
pub mod WalkAttributes
pub mod EdgeEnds
