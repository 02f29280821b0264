pub mod Cursors
pub mod Order
pub mod Pieces
pub mod Rows
