pub mod Checked
pub mod Writes
