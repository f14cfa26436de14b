pub mod Scan
pub use Rattle.value_rows.specs.of_array_totals as of_array_totals
pub use Rattle.value_rows.specs as of_value_rows
