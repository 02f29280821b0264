pub mod InteriorDeltas
pub mod OlderSteps
pub mod SpelledRecords
pub mod GivenDeltas
