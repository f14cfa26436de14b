pub mod Units
pub mod Threes
pub use Rattle.needs_runs.specs as of_needs_runs
pub use Rattle.needs_runs.specs.of_plan_meaning as of_plan_meaning
