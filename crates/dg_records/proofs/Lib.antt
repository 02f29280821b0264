pub mod KeptColumns
pub mod DeltaFronts
pub mod DeltaReads
