mod ExamplesPhases
mod ExamplesArrays
mod ExamplesOperators
mod ExamplesScalars
mod ExamplesShattered
pub mod GrowthLemmas
pub mod HandedLemmas
pub mod MoreLemmas
pub mod ScalarLemmas
pub mod TrapLemmas
pub mod DepthLemmas
pub mod ProperLemmas
pub mod StatementLemmas
pub mod NamesLemmas
pub mod VisitLemmas
pub mod GivenLemmas
pub mod CallLemmas
pub use Rattle.zpl_binding.proofs.of_zpl_arrays as of_zpl_arrays
pub use Rattle.zpl_binding.proofs as of_zpl_binding
pub use Rattle.zpl_binding.proofs.of_zpl_names as of_zpl_names
pub use Rattle.zpl_binding.proofs.of_zpl_region as of_zpl_region
pub use Rattle.zpl_binding.proofs.of_zpl_tree as of_zpl_tree
