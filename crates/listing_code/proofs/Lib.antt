pub mod CodeLemmas
pub use Rattle.grid_call.proofs as of_grid_call
pub use Rattle.grid_call.proofs.of_call_answers as of_call_answers
pub use Rattle.grid_call.proofs.of_exec_claims as of_exec_claims
pub use Rattle.grid_call.proofs.of_grid_sim as of_grid_sim
pub use Rattle.grid_call.proofs.of_row_turn as of_row_turn
