pub mod Told
pub mod LinesState
pub mod Frame
pub mod MemoryForms
pub mod Feed
pub mod Buffer
pub mod Standard
pub mod Calls
