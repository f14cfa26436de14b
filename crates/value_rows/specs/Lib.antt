pub mod Row
pub use Rattle.array_totals.specs as of_array_totals
