pub mod Phased
pub mod Statements
pub mod Trapping
