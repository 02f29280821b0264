pub mod TextChange
pub mod Tails
pub mod PartGrammar
pub mod Table
