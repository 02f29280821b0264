pub mod Lists
pub mod EventMarks
pub mod NetLaws
pub mod Surplus
