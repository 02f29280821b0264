pub mod Endings
pub mod PutText
pub mod SpanText
pub mod Dumped
