pub mod DraftLemmas
pub mod FitLemmas
pub mod FlatRowLemmas
pub mod GroupedLemmas
pub mod InPlaceLemmas
pub mod NumberLemmas
pub mod PassLemmas
pub mod RowLemmas
pub mod SeenLemmas
pub mod StretchLemmas
pub use Rattle.flat_form.proofs.of_code_parts as of_code_parts
pub use Rattle.flat_form.proofs as of_flat_form
pub use Rattle.flat_form.proofs.of_grid_meaning as of_grid_meaning
pub use Rattle.flat_form.proofs.of_node_form as of_node_form
pub use Rattle.flat_form.proofs.of_row_runs as of_row_runs
pub use Rattle.flat_form.proofs.of_zpl_arrays as of_zpl_arrays
