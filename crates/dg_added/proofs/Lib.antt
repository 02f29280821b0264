pub mod PutIn
pub mod Rows
