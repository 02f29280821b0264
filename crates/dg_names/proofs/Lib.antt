pub mod NameLimitNumbers
