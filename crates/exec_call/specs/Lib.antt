pub mod Call
pub mod Work
pub use Rattle.listing_code.specs.of_call_answers as of_call_answers
pub use Rattle.listing_code.specs.of_grid_call as of_grid_call
pub use Rattle.listing_code.specs.of_grid_sim as of_grid_sim
pub use Rattle.listing_code.specs.of_row_turn as of_row_turn
pub use Rattle.listing_code.specs.of_exec_claims as of_exec_claims
pub use Rattle.resume_claims.specs as of_resume_claims
