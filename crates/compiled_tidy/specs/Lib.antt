pub mod Lowered
pub mod Accepted
