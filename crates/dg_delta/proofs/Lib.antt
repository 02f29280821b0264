pub mod Deltas
pub mod Stacks
