pub mod ReplayNets
pub mod Completion
pub mod Graph
pub mod NetLaws
pub mod EventMarks
pub mod ExactEventCuts
pub mod SortedSurplus
pub mod ExactEventNets
