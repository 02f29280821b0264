pub mod Request
pub mod Position
