pub mod Walks
pub mod Expressions
pub mod Rows
pub mod ExpressionTexts
pub mod ChosenElements
