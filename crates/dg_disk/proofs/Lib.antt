pub mod CrashTorn
pub mod CrashLeavesOnly
pub mod CrashTold
pub mod CrashReads
pub mod DeedsLemmas
pub mod ImageTold
pub mod FrameLemmas
