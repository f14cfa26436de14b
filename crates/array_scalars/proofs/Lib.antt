pub mod ScalarLemmas
pub mod NowhereLemmas
pub mod ScanLemmas
pub use Rattle.array_values.proofs as of_array_values
