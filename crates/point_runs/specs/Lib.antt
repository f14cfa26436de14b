pub mod Own
pub mod Shattered
pub use Rattle.array_runs.specs as of_array_runs
