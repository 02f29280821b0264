pub mod ChangeGrammar
pub mod Batch
pub mod GeneratedChanges
pub mod EventChanges
