pub mod Cells
pub mod Columns
pub mod Memory
pub mod Store
pub mod Words
