pub mod PartsForm
