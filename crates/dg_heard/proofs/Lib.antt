pub mod Told
pub mod ToldLists
pub mod KeptLists
pub mod HistoryLaws
pub mod HeardLists
pub mod HeardBytes
pub mod ListColumns
