pub mod PlaceLemmas
pub mod WalkLemmas
pub use Rattle.zpl_arrays.proofs as of_zpl_arrays
pub use Rattle.zpl_arrays.proofs.of_zpl_nums as of_zpl_nums
pub use Rattle.zpl_arrays.proofs.of_zpl_region as of_zpl_region
