pub mod Folding
pub mod Joining
pub mod Meeting
pub mod Walking
