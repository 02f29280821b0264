mod Examples
pub mod WrittenFormMatches
