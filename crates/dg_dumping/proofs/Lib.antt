pub mod Pieces
pub mod Batches
pub mod Ends
pub mod Spans
pub mod SpanLists
pub mod Dumps
