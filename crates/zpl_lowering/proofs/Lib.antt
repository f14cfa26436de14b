mod ExamplesArrays
mod ExamplesCalls
mod ExamplesOperators
mod ExamplesRuns
mod ExamplesScalars
pub mod PutLemmas
pub use Rattle.text_sharing.proofs.of_flat_form as of_flat_form
pub use Rattle.text_sharing.proofs.of_row_runs as of_row_runs
pub use Rattle.text_sharing.proofs as of_text_sharing
pub use Rattle.zpl_meaning.proofs as of_zpl_meaning
pub use Rattle.zpl_meaning.proofs.of_zpl_tree as of_zpl_tree
