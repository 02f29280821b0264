pub mod Additions
pub mod PutIn
