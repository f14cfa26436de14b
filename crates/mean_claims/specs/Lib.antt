pub mod Answer
pub mod Cause
pub mod Decided
pub mod Text
pub mod Whole
