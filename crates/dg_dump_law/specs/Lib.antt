pub mod ScriptLoads
pub mod OwnFiles
