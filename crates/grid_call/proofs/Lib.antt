pub mod RunLemmas
pub mod WorkLemmas
pub use Rattle.call_answers.proofs as of_call_answers
pub use Rattle.call_answers.proofs.of_exec_claims as of_exec_claims
pub use Rattle.call_answers.proofs.of_grid_sim as of_grid_sim
pub use Rattle.call_answers.proofs.of_row_turn as of_row_turn
