pub mod Expressions
pub mod ExpressionGrammar
pub mod Chosen
pub mod Rests
pub mod Owing
pub mod ExpressionLaws
