pub mod Lines
pub mod ReadBack
