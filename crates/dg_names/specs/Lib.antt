pub mod NameLimits
