pub mod Walks
pub mod IndexGraph
pub mod EnteredRecords
pub mod InstantPoint
pub mod CertificateLines
pub mod HistoryGraph
pub mod TreePaths
pub mod PlanLaws
