mod Trees
mod ExamplesSettings
mod ExamplesValues
mod ExamplesRegions
mod ExamplesStorages
pub mod OutcomeLemmas
mod BoundLemmas
mod FormalLemmas
pub mod ListLemmas
pub mod DeclarationLemmas
pub mod LimitLemmas
mod ExamplesCopies
mod BoxLemmas
mod ExpandedLemmas
pub mod KeptLemmas
mod ExamplesAccepted
pub use Rattle.zpl_arrays.proofs as of_zpl_arrays
pub use Rattle.zpl_names.proofs as of_zpl_names
pub use Rattle.zpl_arrays.proofs.of_zpl_region as of_zpl_region
pub use Rattle.zpl_tree.proofs as of_zpl_tree
