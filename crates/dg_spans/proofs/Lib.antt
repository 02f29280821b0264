pub mod Places
pub mod HistoryRecords
