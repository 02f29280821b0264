pub mod RecentEvents
pub mod EventSources
pub mod SessionStart
pub mod Refusals
pub mod Faults
pub mod Calls
