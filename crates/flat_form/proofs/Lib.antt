mod Examples
pub mod GrowthLemmas
pub mod WordLemmas
pub mod AgreeLemmas
pub mod NamedLemmas
pub mod ControlLemmas
pub mod LogLemmas
pub mod LoopLemmas
pub mod TouchLemmas
pub mod StepLemmas
pub mod ChangeLemmas
pub mod ReadLemmas
pub mod WholeLemmas
pub mod InlineLemmas
pub mod TreeLemmas
pub use Rattle.code_parts.proofs as of_code_parts
pub use Rattle.grid_meaning.proofs as of_grid_meaning
pub use Rattle.grid_meaning.proofs.of_node_form as of_node_form
pub use Rattle.nest_meaning.proofs.of_row_runs as of_row_runs
pub use Rattle.code_parts.proofs.of_zpl_arrays as of_zpl_arrays
