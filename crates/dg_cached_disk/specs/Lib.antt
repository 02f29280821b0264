pub mod Ranges
pub mod Standing
