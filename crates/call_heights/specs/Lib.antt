pub mod Calls
pub mod Refutes
pub mod Walk
