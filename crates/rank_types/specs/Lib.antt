pub mod Calls
pub mod Faults
pub mod Judges
pub mod Names
pub mod Symbols
pub mod Typed
