pub mod NameNumbers
pub mod LinesBack
pub mod BatchesBack
pub mod ScriptLines
mod DumpRows
pub mod BatchRuns
pub mod HistoryRuns
pub mod OneRun
pub mod BroughtNames
pub mod TextChanges
pub mod Rooms
pub mod KeptHistories
pub mod TextsBack
