pub mod StoredHistory
