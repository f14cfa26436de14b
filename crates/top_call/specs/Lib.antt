pub mod Call
pub mod Done
pub mod Whole
pub mod Work
