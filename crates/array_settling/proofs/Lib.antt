pub mod FrontLemmas
pub use Rattle.array_regions.proofs as of_array_regions
