pub mod Call
pub mod Work
pub use Rattle.time_claims.specs as of_time_claims
pub use Rattle.grid_order.specs as of_grid_order
pub use Rattle.grid_runs.specs as of_grid_runs
