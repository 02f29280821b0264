pub mod Told
pub mod Calls
pub mod Collected
pub mod Once
