pub mod Box
pub mod Fault
pub mod Place
pub mod Sent
pub mod Three
pub use Rattle.grid_save.specs as of_grid_save
