pub mod GridLemmas
pub mod BlockLemmas
pub mod OwnerLemmas
pub mod PartLemmas
pub mod SoundLemmas
pub mod HeldLemmas
pub mod ThreeLemmas
pub mod SizeLemmas
pub mod HullLemmas
pub mod SideLemmas
pub mod PlaceLemmas
pub mod DimLemmas
mod Examples
pub mod OwnLemmas
pub use Rattle.zpl_region.proofs as of_zpl_region
