pub mod SaveLemmas
pub mod ToldLemmas
pub mod WorkLemmas
pub use Rattle.listing_code.proofs.of_call_answers as of_call_answers
pub use Rattle.listing_code.proofs.of_grid_call as of_grid_call
pub use Rattle.listing_code.proofs.of_grid_sim as of_grid_sim
pub use Rattle.listing_code.proofs.of_row_turn as of_row_turn
pub use Rattle.listing_code.proofs.of_exec_claims as of_exec_claims
pub use Rattle.resume_claims.proofs as of_resume_claims
