pub mod Lines
pub mod Words
pub mod Verbs
pub mod Names
