pub mod SpanSaid
