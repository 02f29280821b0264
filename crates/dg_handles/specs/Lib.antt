pub mod Attached
pub mod Handles
pub mod FirstEntry
pub mod Written
