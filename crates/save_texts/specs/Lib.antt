pub mod Links
pub mod Newlines
pub mod Parts
