pub mod Outside
pub mod Statuses
pub mod Served
pub mod RunWeights
pub mod GainedReplies
pub mod Turns
pub mod Calls
pub mod Promised
