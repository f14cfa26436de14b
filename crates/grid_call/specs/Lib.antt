pub mod Ended
pub mod Work
pub use Rattle.call_answers.specs as of_call_answers
pub use Rattle.code_layout.specs as of_code_layout
pub use Rattle.call_answers.specs.of_exec_claims as of_exec_claims
pub use Rattle.call_answers.specs.of_grid_sim as of_grid_sim
pub use Rattle.call_answers.specs.of_row_turn as of_row_turn
