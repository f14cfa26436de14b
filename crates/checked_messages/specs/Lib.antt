pub mod Going
pub mod Together
pub use Rattle.checked_rows.specs as of_checked_rows
