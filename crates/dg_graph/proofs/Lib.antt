pub mod Sets
pub mod ColumnRows
pub mod GrammarRows
pub mod DifferentialFunctionDeltas
pub mod ExactEvents
pub mod Completions
