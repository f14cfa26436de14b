mod ArrayExamples
mod Examples
mod ExchangeExamples
mod FoldExamples
pub mod BoxLemmas
pub mod FactorLemmas
pub mod GridLemmas
pub mod ScalarLemmas
pub mod PartnerLemmas
pub mod RegionLemmas
pub mod StateLemmas
pub mod LoopLemmas
pub mod RemapLemmas
pub mod RoomLemmas
pub mod WorldLemmas
pub use Rattle.grid_layout.proofs as of_grid_layout
pub use Rattle.node_form.proofs as of_node_form
pub use Rattle.grid_layout.proofs.of_zpl_region as of_zpl_region
