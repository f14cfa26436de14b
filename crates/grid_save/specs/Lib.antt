pub mod Fault
pub mod Kept
pub mod Onward
pub mod Reads
pub mod Saved
pub mod Writing
pub mod Written
