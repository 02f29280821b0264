pub mod ListElements
pub mod WordNumbers
pub mod Space
pub mod Prefixes
pub mod SymbolNumbers
pub mod Symbols
