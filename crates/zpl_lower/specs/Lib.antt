pub mod Runs
pub mod Turns
pub mod Calls
pub mod Programs
