pub mod Call
pub mod Line
pub mod Stages
pub mod Telling
pub mod Trace
pub mod Work
