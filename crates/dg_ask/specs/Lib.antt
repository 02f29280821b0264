pub mod HeldIndex
pub mod KeptAdjacency
pub mod KeptPlanner
pub mod Plans
pub mod PrintedPlans
pub mod RecordListing
pub mod ReplyNames
