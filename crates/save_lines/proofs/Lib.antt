pub mod Appends
pub mod Colon
mod Examples
pub mod Found
pub mod Gaps
pub mod OneText
pub mod Steps
