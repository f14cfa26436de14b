pub mod StackLemmas
pub mod ScanLemmas
pub use Rattle.scan_rows.proofs.of_value_rows as of_value_rows
