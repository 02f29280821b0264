pub mod SeededHasher
