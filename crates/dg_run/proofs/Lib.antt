pub mod PromisedEnds
pub mod StepIndexes
pub mod CrashRuns
pub mod RunWeights
mod RunWeightRows
pub mod EntryAnswers
pub mod SessionRuns
pub mod WrittenReplies
pub mod ServedRuns
pub mod StatusStarts
pub mod ExactRuns
pub mod PromisedRuns
