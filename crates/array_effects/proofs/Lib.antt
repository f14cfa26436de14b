pub mod EffectLemmas
pub use Rattle.array_values.proofs as of_array_values
