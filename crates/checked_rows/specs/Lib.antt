pub mod Faced
pub mod Right
pub mod Visits
pub use Rattle.node_check.specs as of_node_check
pub use Rattle.needs_runs.specs as of_needs_runs
pub use Rattle.plan_meaning.specs as of_plan_meaning
