pub mod Claims
pub mod Potentials
pub mod WrittenLines
pub mod PlanLines
pub mod Search
