pub mod ChangeEvents
