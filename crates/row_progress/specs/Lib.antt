pub mod Begun
pub mod Kept
pub mod May
pub mod Next
pub mod Walk
