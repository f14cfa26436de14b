pub mod Asked
pub mod Row
pub mod Stages
