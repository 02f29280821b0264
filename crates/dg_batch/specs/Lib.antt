pub mod BatchLines
pub mod GeneratedBatch
pub mod Halt
pub mod PlanLines
pub mod HandlesStay
pub mod Held
