pub mod Answer
pub mod Cause
pub mod Decided
pub mod Onward
pub mod Saving
pub mod Texts
pub mod Whole
pub use Rattle.exec_claims.specs as of_exec_claims
pub use Rattle.saved_runs.specs.of_grid_save as of_grid_save
