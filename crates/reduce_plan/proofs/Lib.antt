mod Examples
pub mod JoinLemmas
pub mod ReachedLemmas
pub mod TreeLemmas
pub mod WalkLemmas
pub use Rattle.region_places.proofs.of_zpl_arrays as of_zpl_arrays
pub use Rattle.grid_layout.proofs.of_zpl_region as of_zpl_region
