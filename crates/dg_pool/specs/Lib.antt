pub mod Graphs
pub mod Sweeps
pub mod Slots
pub mod Counts
pub mod Current
pub mod Masks
pub mod Listing
pub mod Changes
