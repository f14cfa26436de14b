pub mod FitLemmas
pub mod JumpLemmas
pub mod NormalLemmas
pub mod PieceLemmas
mod Programs
pub mod RowLemmas
pub mod SizeLemmas
pub use Rattle.flat_passes.proofs.of_code_parts as of_code_parts
pub use Rattle.flat_passes.proofs.of_flat_form as of_flat_form
pub use Rattle.flat_passes.proofs as of_flat_passes
pub use Rattle.flat_passes.proofs.of_grid_meaning as of_grid_meaning
pub use Rattle.flat_passes.proofs.of_node_form as of_node_form
pub use Rattle.flat_passes.proofs.of_row_runs as of_row_runs
pub use Rattle.flat_passes.proofs.of_zpl_arrays as of_zpl_arrays
