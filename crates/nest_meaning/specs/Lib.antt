pub mod Nested
pub mod Units
pub mod Tree
pub mod Alike
pub mod Turns
pub mod Laws
pub use Rattle.row_runs.specs as of_row_runs
