pub mod NumberLemmas
pub mod DifferentLemmas
pub mod RowLemmas
pub mod FitLemmas
pub mod ChangeLemmas
pub use Rattle.flat_form.proofs as of_flat_form
pub use Rattle.flat_form.proofs.of_row_runs as of_row_runs
