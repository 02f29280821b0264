pub mod Parsed
pub mod WrittenForm
