pub mod Accepted
pub mod Refused
pub use Rattle.call_answers.specs as of_call_answers
pub use Rattle.call_answers.specs.of_exec_claims as of_exec_claims
pub use Rattle.call_answers.specs.of_grid_sim as of_grid_sim
pub use Rattle.mean_claims.specs as of_mean_claims
