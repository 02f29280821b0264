pub mod TreeSteps
pub mod TreeStepWalks
pub mod NodeSteps
