pub mod Code
pub use Rattle.grid_call.specs as of_grid_call
pub use Rattle.grid_call.specs.of_call_answers as of_call_answers
pub use Rattle.grid_call.specs.of_code_layout as of_code_layout
pub use Rattle.grid_call.specs.of_exec_claims as of_exec_claims
pub use Rattle.grid_call.specs.of_grid_sim as of_grid_sim
pub use Rattle.grid_call.specs.of_row_turn as of_row_turn
