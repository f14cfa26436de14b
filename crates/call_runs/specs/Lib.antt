pub mod Taken
pub mod Answered
pub mod Copied
pub mod Ending
pub mod Leaf
pub use Rattle.prefix_runs.specs as of_prefix_runs
