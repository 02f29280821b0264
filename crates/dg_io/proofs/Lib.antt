pub mod FeedLemmas
pub mod BufferLemmas
pub mod LinesStateLemmas
pub mod ToldLemmas
pub mod FrameLemmas
pub mod GivenLines
