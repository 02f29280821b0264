pub mod EntryRecords
pub mod AdditionRecords
pub mod HierarchyRecords
mod ShapeNodes
pub mod PointLists
