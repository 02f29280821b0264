pub mod Names
pub mod Buffered
pub mod BufferedLines
