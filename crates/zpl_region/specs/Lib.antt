pub mod Blocks
pub mod Dim
pub mod Ends
pub mod Hull
pub mod Progression
pub mod Region
pub mod Tests
