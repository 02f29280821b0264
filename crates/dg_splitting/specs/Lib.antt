pub mod Outs
pub mod Endings
pub mod WholeHistory
pub mod Ends
pub mod Written
pub mod Splits
