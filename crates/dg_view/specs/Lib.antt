pub mod EdgeEnds
pub mod NodeAnswer
pub mod Walk
