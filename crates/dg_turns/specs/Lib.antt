pub mod Grammars
pub mod Entries
pub mod Behind
pub mod Runs
pub mod Turns
pub mod Ends
