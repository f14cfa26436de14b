pub mod Rows
pub mod Agreement
pub mod Halves
pub use Rattle.grid_paths.specs as of_grid_paths
