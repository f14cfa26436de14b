pub mod ScanLemmas
pub use Rattle.value_rows.proofs as of_value_rows
