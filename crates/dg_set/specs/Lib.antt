pub mod Indices
pub mod Apart
pub mod Replacements
