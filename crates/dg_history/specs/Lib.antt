pub mod Keys
pub mod History
pub mod EventTimes
pub mod LegalHistory
