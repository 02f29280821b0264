pub mod OwnEvents
pub mod Soundness
