pub mod Request
pub mod Tuples
