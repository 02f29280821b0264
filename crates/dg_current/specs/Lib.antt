pub mod ElementIds
pub mod HeldElements
pub mod Sorted
pub mod HeldGraph
pub mod HeldSet
pub mod EventEffect
pub mod Now
