pub mod KeptRanges
pub mod StandingRanges
