pub mod Told
pub mod Ticks
