pub mod Ranges
pub mod Weights
pub mod ColumnRuns
pub mod ListValues
pub mod ValueLaw
pub mod Added
pub mod AddedLaw
