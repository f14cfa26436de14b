pub mod Meant
pub mod Hoists
pub mod Guards
pub mod Settles
pub mod Phases
pub mod Operated
pub mod Served
pub mod Copies
pub use Rattle.border_runs.specs as of_border_runs
pub use Rattle.call_runs.specs as of_call_runs
