pub mod RegionLemmas
pub mod VectorLemmas
pub use Rattle.array_places.proofs as of_array_places
