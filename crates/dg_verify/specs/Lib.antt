pub mod Stops
pub mod Faults
pub mod EventTests
pub mod Verification
pub mod Deltas
pub mod RecordBytes
