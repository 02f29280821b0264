pub mod CutEvents
