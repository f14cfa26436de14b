pub mod Scan
pub use Rattle.scan_rows.specs.of_array_totals as of_array_totals
pub use Rattle.scan_rows.specs.of_value_rows as of_value_rows
