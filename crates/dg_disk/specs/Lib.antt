pub mod Frame
pub mod Counts
pub mod Image
pub mod Crash
pub mod Deeds
pub mod Memory
pub mod Entries
pub mod Calls
