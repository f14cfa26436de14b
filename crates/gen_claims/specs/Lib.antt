pub mod Answer
pub mod Cause
pub mod Decided
pub mod Grids
pub mod Meant
pub mod Runs
pub use Rattle.run_claims.specs as of_run_claims
