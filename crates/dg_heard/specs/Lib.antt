pub mod ListColumns
pub mod Heard
pub mod HistoryLaw
