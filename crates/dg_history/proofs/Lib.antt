pub mod EventTimes
pub mod LegalHistories
pub mod ParameterRanges
