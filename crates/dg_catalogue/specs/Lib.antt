pub mod Keys
pub mod Entries
pub mod Additions
pub mod Held
pub mod Shapes
pub mod Points
