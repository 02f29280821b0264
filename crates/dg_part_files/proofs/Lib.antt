pub mod NewNames
pub mod FrontBatches
pub mod CutSteps
pub mod PartCrowds
pub mod PartSteps
pub mod PartWriting
