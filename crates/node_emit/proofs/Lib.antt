pub mod TreeLemmas
pub use Rattle.flat_passes.proofs as of_flat_passes
