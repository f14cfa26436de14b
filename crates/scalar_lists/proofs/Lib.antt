pub mod ListLemmas
pub use Rattle.array_scalars.proofs as of_array_scalars
