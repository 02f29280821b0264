pub mod WrittenForm
