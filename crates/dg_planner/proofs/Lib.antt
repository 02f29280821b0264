mod PlanRows
pub mod AskedLengthSums
pub mod OrderPlaces
pub mod OrderHeights
pub mod HierarchyNodes
pub mod OrderEnds
pub mod OrderPlans
pub mod WholeArcs
pub mod SearchPlans
pub mod TreeGrowth
pub mod HistoryLawGraphs
pub mod ReplayInstants
pub mod HistoryLawPoints
pub mod IndexNodeExistence
pub mod NodeReachability
pub mod PlanPotentials
