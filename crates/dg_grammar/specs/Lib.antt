pub mod Space
pub mod Prefixes
pub mod Symbols
