pub mod FieldGroups
pub mod FieldEvents
pub mod ColumnWrites
pub mod FieldElements
pub mod ColumnGrammarDeltas
mod SoundEnds
pub mod Fields
pub mod ColumnLawSpelling
pub mod ColumnLawEvents
pub mod ColumnLawDeltas
pub mod Rows
pub mod MergeWalk
pub mod ReadFitsDeltas
pub mod ReadFitsParts
pub mod ReadFitsEvents
pub mod ColumnLawMerges
pub mod EventRanges
pub mod Fronts
