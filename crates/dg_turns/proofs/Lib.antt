pub mod LinesStateEnds
pub mod TakenRuns
pub mod EntryLines
pub mod SoFar
pub mod RunEnds
