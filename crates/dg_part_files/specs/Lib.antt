pub mod WrittenParts
pub mod PartFaults
pub mod Faults
