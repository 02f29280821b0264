pub mod ScriptOfHistory
pub mod NamesOfLines
pub mod DumpLaws
