pub mod Faults
pub mod DeltaFronts
pub mod ColumnReads
pub mod EventNames
pub mod Calls
