pub mod Threes
pub mod Owed
pub use Rattle.needs_runs.specs as of_needs_runs
